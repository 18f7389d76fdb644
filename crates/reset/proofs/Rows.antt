-- The rows: registers for all records, the others worked out.
use Prim.Native.Nat.{ℕ, ◌+◌, ◌*◌, ◌/◌, ◌%◌, ◌<◌, ◌≤◌}
use native.Mathlib.Omega.{arith}
use mathlib.Core.List.{List}
use mathlib.Core.Path.{◌≡◌, refl, ◌∙◌, ap}
use lib.ListN.{length, get_or}
use borrow.Author.Tests.{le-ltb}
use Rattle.board.specs.Parts.{Parts}
use Rattle.numbers.specs.Numbers.{little}
use Rattle.numbers.specs.Tables.{table_from}
use Rattle.numbers.proofs.Tables.{table_length, table_get}
use Rattle.window_list.specs.Windows.{window_list, window_at, gather, open_windows, put, put_all, list_of}
use Rattle.window_list.specs.Kept.{kept_list}
use Rattle.reset.specs.Reset.{registers_of, restarted, reset}
use Rattle.reset.specs.Rows.{ResetRows}

-- an accepted reset has the registers of the definition
registers_are : (p : Parts) → get_or p.cell_offsets 96 0 ≤ length p.cells → (reset p).parts.registers ≡ registers_of p.records
unfolding restarted reset
registers_are p h = rw (le-ltb (length p.cells) (get_or p.cell_offsets 96 0) h)

room : (p : Parts) → get_or p.cell_offsets 96 0 ≤ length p.cells → length (reset p).parts.registers ≡ 4096
unfolding registers_of
room p h = ap length (registers_are p h) ∙ table_length 0 4096 _

copied : (p : Parts) (i register : ℕ) → get_or p.cell_offsets 96 0 ≤ length p.cells → i < 16 → register < 256
    → get_or (reset p).parts.registers (256 * i + register) 0 ≡ get_or p.records (544 * i + register) 0
unfolding registers_of
copied p i register h few b =
    let function : (0 + (256 * i + register)) / 256 ≡ i = omega arith in
    let byte : (0 + (256 * i + register)) % 256 ≡ register = omega arith in
    ap (λ (l : List ℕ). get_or l (256 * i + register) 0) (registers_are p h)
    ∙ table_get 0 4096 _ (256 * i + register) (omega arith)
    ∙ rw (function, byte)

anew : (p : Parts) → get_or p.cell_offsets 96 0 ≤ length p.cells
    → (reset p).parts.windows ≡ kept_list (window_list p.header p.records (reset p).parts.registers)
unfolding restarted reset
anew p h = rw (le-ltb (length p.cells) (get_or p.cell_offsets 96 0) h)

pub reset_rows : ResetRows
unfolding little table_from window_at gather open_windows put put_all list_of kept_list registers_of restarted reset
reset_rows =
    record {
      statuses = refl;
      stays = refl;
      cells_zero = refl;
      cleared = refl;
      loaded = refl;
      registers_room = room;
      registers_copied = copied;
      windows_anew = anew;
    }
