-- What the steps of a check do: parts of the table of refusals, document 01, "Load refusals". The
-- contract of the check cites the table alone.
use Rattle.std.specs.Prelude.{ℕ, not, cond, ◌||◌, ltb, eqb}
use Rattle.board.specs.Layout.{functions_max}
use Rattle.image_layout.specs.Image.{trailer_size, image_size}
use Rattle.image_refusals.specs.Refusals.{Verdict, cells_max, accepted, refused, bad_record}
use Rattle.image_refusals.specs.declared.verdict.ImageRefusal.TheVariants.{
  Length,
  Edition,
  Count,
  Distance,
  Sum,
  Windows,
  Cells,
}

-- refusals 1 to 4, of the length and the trailer's numbers
abbrev pub form_refusal : ℕ → ℕ → ℕ → ℕ → Verdict
form_refusal length edition count distance =
    cond (ltb length trailer_size) (refused Length)
    (cond (not (eqb edition 1)) (refused Edition)
    (cond (eqb count 0 || ltb functions_max count) (refused Count)
    (cond (not (eqb distance (image_size count))
    || ltb length (image_size count)) (refused Distance)
    accepted)))

-- refusals 7 and 8
abbrev pub cells_verdict : ℕ → ℕ → Verdict
cells_verdict total room =
    cond (ltb cells_max total) (refused Windows)
    (cond (ltb room total) (refused Cells)
    accepted)

-- refusals 5 to 8
abbrev pub records_verdict : ℕ → ℕ → ℕ → ℕ → ℕ → ℕ → Verdict
records_verdict sum said bad count total room =
    cond (not (eqb sum said)) (refused Sum)
    (cond (ltb bad count) (bad_record bad)
    (cells_verdict total room))
