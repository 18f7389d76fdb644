-- What a load refuses: document 01, "Board image", "Load refusals", as a table over plain values.
use Rattle.std.specs.Prelude.{
  ℕ,
  zero,
  suc,
  ◌+◌,
  Bool,
  true,
  false,
  not,
  cond,
  ◌||◌,
  ltb,
  eqb,
  ℤ,
  pos,
  Result,
  Ok,
  Err,
}
use Rattle.board.specs.Layout.{functions_max}
use Rattle.image_layout.specs.Image.{trailer_size, image_size}
use Rattle.image_refusals.specs.declared.verdict.ImageRefusal.{ImageRefusal}
use Rattle.image_refusals.specs.declared.verdict.ImageRefusal.TheVariants.{
  Length,
  Edition,
  Count,
  Distance,
  Sum,
  Record,
  Windows,
  Cells,
}

-- bytes of an image at most, and cells of a board at most
abbrev pub image_max : ℕ
image_max = 65536

abbrev pub cells_max : ℕ
cells_max = 65536

-- a refusal's number, and the place that is returned with it: with 6 that of the record
abbrev pub image_refusal_number : ImageRefusal → ℤ
image_refusal_number Length = pos 1
image_refusal_number Edition = pos 2
image_refusal_number Count = pos 3
image_refusal_number Distance = pos 4
image_refusal_number Sum = pos 5
image_refusal_number (Record place) = pos 6
image_refusal_number Windows = pos 7
image_refusal_number Cells = pos 8

abbrev pub image_refusal_place : ImageRefusal → ℕ
image_refusal_place Length = 0
image_refusal_place Edition = 0
image_refusal_place Count = 0
image_refusal_place Distance = 0
image_refusal_place Sum = 0
image_refusal_place (Record place) = place
image_refusal_place Windows = 0
image_refusal_place Cells = 0

-- what a check finds: nothing to refuse, or the first refusal that applies
abbrev pub Verdict : Type 0
Verdict = Result Unit ImageRefusal

abbrev pub accepted : Verdict
accepted = Ok tt

abbrev pub refused : ImageRefusal → Verdict
refused r = Err r

abbrev pub bad_record : ℕ → Verdict
bad_record place = Err (Record place)

abbrev pub is_accepted : Verdict → Bool
is_accepted (Ok v) = true
is_accepted (Err r) = false

-- the number and the place that are handed back
abbrev pub verdict_number : Verdict → ℤ
verdict_number (Ok v) = pos 0
verdict_number (Err r) = image_refusal_number r

abbrev pub verdict_place : Verdict → ℕ
verdict_place (Ok v) = 0
verdict_place (Err r) = image_refusal_place r

-- of the n places i, i + 1 .. the first that does not pass; i + n where all do
unfoldable pub first_bad : (ℕ → Bool) → ℕ → ℕ → ℕ
first_bad pass i zero = i
first_bad pass i (suc n) = cond (pass i) (first_bad pass (i + 1) n) i

-- what the image says of itself: its length, its trailer's numbers (said is the sum there), and
-- what its records come to: their sum, the place of the first that breaks a rule, the total of
-- their cells
pub record Facts : Type 0 where
  pub length : ℕ
  pub edition : ℕ
  pub count : ℕ
  pub distance : ℕ
  pub said : ℕ
  pub sum : ℕ
  pub bad : ℕ
  pub total : ℕ

-- the first that applies, with so many cells lent; the upper length of refusal 1 stands apart
unfoldable pub first_refusal : Facts → ℕ → Verdict
first_refusal f room =
    cond (ltb f.length trailer_size) (refused Length)
    (cond (not (eqb f.edition 1)) (refused Edition)
    (cond (eqb f.count 0 || ltb functions_max f.count) (refused Count)
    (cond (not (eqb f.distance (image_size f.count))
    || ltb f.length (image_size f.count)) (refused Distance)
    (cond (not (eqb f.sum f.said)) (refused Sum)
    (cond (ltb f.bad f.count) (bad_record f.bad)
    (cond (ltb cells_max f.total) (refused Windows)
    (cond (ltb room f.total) (refused Cells)
    accepted)))))))
