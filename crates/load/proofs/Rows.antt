-- The rows: refused loads for every board and image, the others worked out.
use Prim.Native.Nat.{ℕ, ◌<◌, ◌≤◌}
use mathlib.Core.Bool.{cond}
use mathlib.Core.List.{List}
use mathlib.Core.Path.{◌≡◌, refl, ap}
use lib.IntN.{pos}
use Rattle.std.specs.Prelude.{Ok, Err}
use lib.ListN.{length}
use borrow.Author.Tests.{lt-ltb, le-ltb}
use Rattle.numbers.specs.Numbers.{little, big}
use Rattle.numbers.specs.Tables.{table_from}
use Rattle.board.specs.Parts.{Parts}
use Rattle.image_entry.specs.Entry.{entry_ok}
use Rattle.image_record.specs.Record.{record_ok}
use Rattle.cell_layout.specs.Cells.{cells_before}
use Rattle.image_layout.specs.Image.{sum}
use Rattle.image_refusals.specs.Refusals.{Verdict, refused, is_accepted, verdict_number, first_bad, first_refusal}
use Rattle.image_refusals.specs.declared.verdict.ImageRefusal.TheVariants.{Length}
use Rattle.image_refusals.specs.Rows.{handed}
use Rattle.image_check.specs.Check.{checked}
use Rattle.reset.specs.Reset.{registers_of, restarted}
use Rattle.load.specs.Load.{LoadOutcome, load_outcome, installed, load, load_any_length}
use Rattle.load.specs.Rows.{LoadRows}

too_long_lem : (p : Parts) (image : List ℕ) → 65536 < length image → load p image ≡ load_outcome (refused Length) p
unfolding checked load
too_long_lem p image h = rw (lt-ltb 65536 (length image) h)

-- of a test of the verdict the refused side
stays : (v : Verdict) (a b : Parts)
    → (verdict_number (cond (is_accepted v) (load_outcome v a) (load_outcome v b)).verdict ≡ pos 0 → ⊥)
    → (cond (is_accepted v) (load_outcome v a) (load_outcome v b)).parts ≡ b
stays (Ok v) a b n = absurd (n refl)
stays (Err r) a b n = refl

refused_stays_lem : (p : Parts) (image : List ℕ) → (verdict_number (load p image).verdict ≡ pos 0 → ⊥) → (load p image).parts ≡ p
unfolding load
refused_stays_lem p image n = stays (checked image (length p.cells)) (installed image p.cells) p n

in_portions : (p : Parts) (image : List ℕ) → length image ≤ 65536 → load_any_length p image ≡ load p image
unfolding checked load load_any_length
in_portions p image h = rw (le-ltb 65536 (length image) h)

pub load_rows : LoadRows
unfolding little big table_from entry_ok record_ok cells_before sum first_bad first_refusal checked registers_of restarted load
load_rows =
    record {
      loaded = refl;
      verdicts = refl;
      too_long = too_long_lem;
      too_long_number = λ p image h. ap (λ (w : LoadOutcome). handed w.verdict) (too_long_lem p image h);
      refused_stays = refused_stays_lem;
      portions = in_portions;
    }
