-- What refuses each idle bus: an answer of the row that is not the bus's.
use Prim.Native.Nat.{ℕ, zero, suc}
use native.Mathlib.Omega.{arith}
use mathlib.Core.List.{List, [], ◌∷◌}
use mathlib.Core.Path.{◌≡◌, refl, ap, sym}
use mathlib.Core.Bool.{true}
use lib.Dec.{ltb}
use borrow.Author.Tests.{lt-ltb}
use lib.IntN.{ℤ, pos, negsuc, nat_abs, pos-ne-negsuc}
use lib.ListN.{get_or}
use Rattle.numbers.specs.Numbers.{little, big}
use Rattle.numbers.specs.Tables.{table_from}
use Rattle.window_list.specs.Windows.{window_at, gather, open_windows, put, put_all, list_of}
use Rattle.window_listing.specs.Listing.{listed_number, listed_values}
use Rattle.config_read.specs.Target.{target}
use Rattle.image_entry.specs.Entry.{entry_ok}
use Rattle.image_record.specs.Record.{record_ok}
use Rattle.cell_layout.specs.Cells.{cells_before}
use Rattle.image_layout.specs.Image.{sum}
use Rattle.image_refusals.specs.Refusals.{first_bad, first_refusal}
use Rattle.reference.specs.Reference.{split, image_verdict, reference_step, reference_queried}
use Rattle.reference.specs.Run.{Response}
use Rattle.proved_cases.specs.B1.{record_bytes, b1}
use Rattle.proved_cases.specs.Cases.{Holds, b1_list, p1, p2, p6, p10, p11}
use Rattle.proved_cases.specs.Idle.{kind_of, ruled_run, bus_under, Fails, IdleBuses, refuses_everything, finds_handle1, writes_up_to, lists}

-- the number, and a value, of the answer at a position
abbrev number_at : ℕ → List Response → ℤ
number_at i [] = pos 0
number_at zero (h ∷ hs) = h.answer.number
number_at (suc i) (h ∷ hs) = number_at i hs

abbrev value_at : ℕ → ℕ → List Response → ℕ
value_at i j [] = 0
value_at zero j (h ∷ hs) = get_or h.answer.values j 0
value_at (suc i) j (h ∷ hs) = value_at i j hs

refuses_p1 : Fails refuses_everything p1
unfolding ruled_run kind_of
refuses_p1 e = pos-ne-negsuc 2 3 (sym (ap (number_at 1) e))

refuses_p10 : Fails refuses_everything p10
unfolding ruled_run kind_of
refuses_p10 e = pos-ne-negsuc 0 8 (sym (ap (number_at 1) e))

finds_p1 : Fails finds_handle1 p1
unfolding ruled_run kind_of
finds_p1 e = absurd (omega (arith, ap (λ hs. nat_abs (number_at 1 hs)) e))

finds_p2 : Fails finds_handle1 p2
unfolding ruled_run kind_of
finds_p2 e = pos-ne-negsuc 1 3 (ap (number_at 1) e)

nothing_written : Fails (writes_up_to 0) p6
unfolding ruled_run kind_of record_bytes b1 little big table_from window_at gather open_windows put put_all list_of listed_number listed_values target entry_ok record_ok cells_before sum first_bad first_refusal split image_verdict reference_step reference_queried
nothing_written e = absurd (omega (arith, ap (value_at 2 0) e))

works_once_lem : Holds (bus_under (writes_up_to 1)) p6
unfolding ruled_run kind_of record_bytes b1 little big table_from window_at gather open_windows put put_all list_of listed_number listed_values target entry_ok record_ok cells_before sum first_bad first_refusal split image_verdict reference_step reference_queried
works_once_lem = refl

-- after the second write the first window is still contested
stands_still_lem : Fails (writes_up_to 1) p11
unfolding ruled_run kind_of record_bytes b1 little big table_from window_at gather open_windows put put_all list_of listed_number listed_values target entry_ok record_ok cells_before sum first_bad first_refusal split image_verdict reference_step reference_queried
stands_still_lem e = absurd (omega (arith, ap (value_at 7 5) e))

-- with fewer than three windows the third is missing, with more there is a fourth
made_up : (m : ℕ) → (m ≡ 3 → ⊥) → Fails (lists m) b1_list
unfolding ruled_run kind_of
made_up zero h e = pos-ne-negsuc 0 3 (sym (ap (number_at 1) e))
made_up (suc zero) h e = pos-ne-negsuc 0 3 (sym (ap (number_at 2) e))
made_up (suc (suc zero)) h e = pos-ne-negsuc 0 3 (sym (ap (number_at 3) e))
made_up (suc (suc (suc zero))) h e = h refl
made_up (suc (suc (suc (suc m)))) h e =
    let past : ltb 3 (suc (suc (suc (suc m)))) ≡ true = lt-ltb 3 (suc (suc (suc (suc m)))) (omega arith) in
    let fourth : pos 0 ≡ negsuc 3 = rw past at (ap (number_at 4) e) in
    pos-ne-negsuc 0 3 fourth

pub idle_buses : IdleBuses
idle_buses =
    record {
      refuses_everything_p1 = refuses_p1;
      refuses_everything_p10 = refuses_p10;
      finds_handle1_p1 = finds_p1;
      finds_handle1_p2 = finds_p2;
      writes_do_nothing = nothing_written;
      works_once = works_once_lem;
      stands_still = stands_still_lem;
      made_up_counts = made_up;
    }
