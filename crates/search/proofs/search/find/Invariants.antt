-- `find`: the search among the functions still to come, with the matches still to pass over, answers
-- as the whole search does.
use Rattle.std.proofs.Common.{◌≡◌, ℕ, Bool, ◌-◌}
use Rattle.search.specs.Search.{matching, searched}
use Rattle.search.proofs.search.find.Given as goal

abbrev pub invariant-loop-i : goal.invariant-loop-i
invariant-loop-i g l =
    (m : ℕ → Bool)
    → ((j : ℕ) (b : Bool) → g.F.Fn.post l.is_match (j, tt) b → b ≡ m j)
    → searched (matching m l.i (l.count - l.i)) l.before ≡ searched (matching m 0 l.count) l.index
