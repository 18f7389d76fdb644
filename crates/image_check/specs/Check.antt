-- The image check: document 01, "Load refusals", of an image's bytes.
use Rattle.std.specs.Prelude.{ℕ, Bool, cond, List, ltb, length}
use Rattle.board.specs.Layout.{exponent}
use Rattle.cell_layout.specs.Cells.{total}
use Rattle.image_layout.specs.Image.{
  distance_of,
  count_of,
  edition_of,
  sum_of,
  records_of,
  record_at,
  sum,
}
use Rattle.image_record.specs.Record.{record_ok}
use Rattle.image_refusals.specs.Refusals.{
  Facts,
  Verdict,
  image_max,
  refused,
  first_bad,
  first_refusal,
}
use Rattle.image_refusals.specs.declared.verdict.ImageRefusal.TheVariants.{Length}

-- what an image says of itself, where pass i tells whether its record at place i keeps the rules
-- and k i b is the length exponent of base register b there
abbrev pub facts : List ℕ → (ℕ → Bool) → (ℕ → ℕ → ℕ) → Facts
facts image pass k =
    record {
      length = length image;
      edition = edition_of image;
      count = count_of image;
      distance = distance_of image;
      said = sum_of image;
      sum = sum (records_of image);
      bad = first_bad pass 0 (count_of image);
      total = total k;
    }

-- the exponents are read as of kept records, which an image's records are as they stand
abbrev pub facts_of : List ℕ → Facts
facts_of image =
    facts image (λ i. record_ok (record_at (records_of image) i)) (exponent (records_of image))

-- the refusals but for the upper length
abbrev pub checked_any_length : List ℕ → ℕ → Verdict
checked_any_length image room = first_refusal (facts_of image) room

-- all refusals: an image longer than 65,536 bytes is refused first
unfoldable pub checked : List ℕ → ℕ → Verdict
checked image room =
    cond (ltb image_max (length image)) (refused Length)
    (checked_any_length image room)
