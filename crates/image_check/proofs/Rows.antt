-- The rows: the upper length for every image, the others worked out.
use Prim.Native.Nat.{ℕ, ◌<◌, ◌≤◌}
use mathlib.Core.List.{List}
use mathlib.Core.Path.{◌≡◌, refl, ap}
use lib.ListN.{length}
use borrow.Author.Tests.{lt-ltb, le-ltb}
use Rattle.numbers.specs.Numbers.{little, big}
use Rattle.image_entry.specs.Entry.{entry_ok}
use Rattle.image_record.specs.Record.{record_ok}
use Rattle.cell_layout.specs.Cells.{cells_before}
use Rattle.image_layout.specs.Image.{sum}
use Rattle.image_refusals.specs.Refusals.{refused, first_bad, first_refusal}
use Rattle.image_refusals.specs.Rows.{handed}
use Rattle.image_refusals.specs.declared.verdict.ImageRefusal.TheVariants.{Length}
use Rattle.image_check.specs.Check.{facts_of, checked}
use Rattle.image_check.specs.Rows.{ImageCheckRows}

upper_length : (image : List ℕ) (room : ℕ) → 65536 < length image → checked image room ≡ refused Length
unfolding checked
upper_length image room h = rw (lt-ltb 65536 (length image) h)

below : (image : List ℕ) (room : ℕ) → length image ≤ 65536 → checked image room ≡ first_refusal (facts_of image) room
unfolding checked
below image room h = rw (le-ltb 65536 (length image) h)

pub image_check_rows : ImageCheckRows
unfolding little big entry_ok record_ok cells_before sum first_bad first_refusal checked
image_check_rows =
    record {
      longer = upper_length;
      longer_number = λ image room h. ap handed (upper_length image room h);
      up_to = below;
      short = refl;
      forms = refl;
      fine = refl;
      heavy_sum = refl;
      bad = refl;
    }
