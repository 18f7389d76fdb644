-- `find`: a match ends the search or is passed over, and so is a function that does not match.
use Rattle.std.proofs.Common.{◌≡◌, ◌+◌, ◌-◌, suc, sym, ◌∙◌, arith}
use Rattle.search.specs.Search.{matching, searched}
use Rattle.search.proofs.Searches.{turn_found, turn_counted, turn_passed}
use Rattle.search.proofs.search.find.Goals.{then-is_match+else-before-eq0, else-is_match}
use Rattle.search.proofs.search.find.Goals as goal

pub returns-then-before-eq0 : goal.returns-then-before-eq0
returns-then-before-eq0 g c = λ m h.
    let l = c.loop-i in
    let more : c.args.count - l.i ≡ suc (c.args.count - (l.i + 1)) = omega arith in
    sym (turn_found m _ _ _ more _ (sym (h _ _ c.is_match.ensures) ∙ c.if-is_match.true) c.if-before-eq0.true) ∙ l.invariant m h

pub loop-i-preserved : goal.loop-i-preserved
loop-i-preserved g c = λ m h.
    let l = c.loop-i in
    let more : c.args.count - l.i ≡ suc (c.args.count - (l.i + 1)) = omega arith in
    let here = sym (h _ _ c.is_match.ensures) in
    elim c.if-is_match.branch [
      | then-is_match+else-before-eq0 w ↦ rw w.before-is (sym (turn_counted m _ _ _ more _ (here ∙ w.if-is_match.true) w.if-before-eq0.false) ∙ l.invariant m h)
      | else-is_match w ↦ rw w.before-is (sym (turn_passed m _ _ _ more _ (here ∙ w.if-is_match.false)) ∙ l.invariant m h)
    ]

pub returns : goal.returns
unfolding matching searched
returns g c = λ m h.
    let l = c.loop-i in
    let none : c.args.count - l.i ≡ 0 = omega arith in
    rw none at (l.invariant m h)
