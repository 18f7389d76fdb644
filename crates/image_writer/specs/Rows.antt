-- Rows with literal numbers of document 01, section "Board image": the writer's refusals in their
-- order, the image that it writes, and the output past it.
use Rattle.std.specs.Prelude.{ℕ, List, [], ◌∷◌, ◌++◌, map, ◌≡◌, ℤ, pos, replicate}
use Rattle.image_refusals.specs.Refusals.{verdict_number}
use Rattle.image_writer.specs.Write.{WriterOutcome, write_image}

-- what is handed back, as a number, and what the output holds
pub record Written : Type 0 where
  pub number : ℤ
  pub out : List ℕ

abbrev written_as : ℕ → List ℕ → Written
written_as number out = record { number = pos number; out = out }

abbrev numbered : WriterOutcome → Written
numbered w = record { number = verdict_number w.verdict; out = w.out }

abbrev written_to : List ℕ → List ℕ → List ℕ → Written
written_to header records out = numbered (write_image header records out)

-- an output of n bytes as lent
abbrev lent : ℕ → List ℕ
lent n = replicate n 0xEE

-- two loaded records, and the image of the first: 556 back, 1 record, edition 1, sum 138,482
abbrev records : List ℕ
records = 0x11 ∷ replicate 543 0xFF ++ replicate 544 9

abbrev image_of_first : List ℕ
image_of_first =
    0x11 ∷ replicate 543 0xFF
    ++ (0 ∷ 0 ∷ 0x02 ∷ 0x2C ∷ 0 ∷ 1 ∷ 0 ∷ 1 ∷ 0 ∷ 0x02 ∷ 0x1C ∷ 0xF2 ∷ [])

-- and of both: 1,100 back, 2 records, edition 1, sum 143,378
abbrev image_of_both : List ℕ
image_of_both =
    records
    ++ (0 ∷ 0 ∷ 0x04 ∷ 0x4C ∷ 0 ∷ 2 ∷ 0 ∷ 1 ∷ 0 ∷ 0x02 ∷ 0x30 ∷ 0x12 ∷ [])

pub record ImageWriterRows : Type 0 where
  -- 1 is tested first, an empty board's image being 12 bytes; then 3
  pub empty_board : map (λ n. written_to (0 ∷ 0 ∷ 0 ∷ 0 ∷ []) records (lent n)) (0 ∷ 11 ∷ 12 ∷ [])
      ≡ written_as 1 [] ∷ written_as 1 (lent 11) ∷ written_as 3 (lent 12) ∷ []
  -- 1 where the output is shorter than the image
  pub shorter : written_to (1 ∷ 0 ∷ 0 ∷ 0 ∷ []) records (lent 555)
      ∷ written_to (2 ∷ 0 ∷ 0 ∷ 0 ∷ []) records (lent 1099) ∷ []
      ≡ written_as 1 (lent 555) ∷ written_as 1 (lent 1099) ∷ []
  -- no notes, edition 1, all records; output past the image stays
  pub written : map (λ n. written_to (1 ∷ 0 ∷ 0 ∷ 0 ∷ []) records (lent n)) (556 ∷ 558 ∷ [])
      ≡ written_as 0 image_of_first ∷ written_as 0 (image_of_first ++ 0xEE ∷ 0xEE ∷ []) ∷ []
  pub both_written : written_to (2 ∷ 0 ∷ 0 ∷ 0 ∷ []) records (lent 1101)
      ≡ written_as 0 (image_of_both ++ 0xEE ∷ [])
