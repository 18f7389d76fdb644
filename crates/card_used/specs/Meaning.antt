-- What the used marks mean, without the proofs: document 01, "Runs and the book", set used.
use Rattle.std.specs.Prelude.{ℕ, ◌+◌, ◌*◌, ◌<◌, cond, List, ◌≡◌, eqb, length}
use Rattle.board.specs.Layout.{mark_size}
use Rattle.card_used.specs.declared.used.Mark.{Mark}
use Rattle.card_used.specs.Used.{mark_at, mark_put}

-- a mark that is set is its function's, and every other function keeps its own
abbrev pub OneMark : Type 0
OneMark =
    (used : List ℕ) (i j : ℕ) (m : Mark) → mark_size * i + 1 < length used
    → mark_at (mark_put used i m) j ≡ cond (eqb j i) m (mark_at used j)
