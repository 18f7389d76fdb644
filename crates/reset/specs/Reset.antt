-- Reset, and what load and reset have in common: document 01, "The modelled board" and, for the
-- refusal, "Numbers handed back".
use Rattle.std.specs.Prelude.{ℕ, ◌*◌, ◌/◌, ◌%◌, cond, List, ltb, length, get_or, replicate}
use Rattle.board.specs.Statuses.{Status, successful, buffer_too_small}
use Rattle.numbers.specs.Tables.{table}
use Rattle.board.specs.Parts.{Parts, parts}
use Rattle.board.specs.Layout.{
  functions_max,
  registers_each,
  hook_size,
  mark_size,
  windows_max,
  record_byte,
}
use Rattle.window_list.specs.Windows.{window_list}
use Rattle.window_list.specs.Kept.{kept_list}
use Rattle.cell_layout.specs.Cells.{zeroed}

-- what a load and a reset put into register `at` of the function at place i, where r i at is byte
-- `at` of its record: the reset value
abbrev pub first_register : (ℕ → ℕ → ℕ) → ℕ → ℕ → ℕ
first_register r i at = r i at

-- the first n registers after a load and after a reset
abbrev pub first_registers : List ℕ → ℕ → List ℕ
first_registers records n =
    table n (λ j. first_register (record_byte records) (j / registers_each) (j % registers_each))

-- and all of them
unfoldable pub registers_of : List ℕ → List ℕ
registers_of records = first_registers records (functions_max * registers_each)

-- registers copied, as many cells zeroed as the windows need, hooks and marks cleared; the window
-- list is worked out anew
unfoldable pub restarted : List ℕ → List ℕ → List ℕ → List ℕ → Parts
restarted header records offsets cells =
    parts header records
    (registers_of records) (kept_list (window_list header records (registers_of records)))
    offsets
    (replicate (functions_max * hook_size) 0) (replicate (functions_max * mark_size) 0)
    (zeroed (get_or offsets windows_max 0) cells)

-- what a reset hands back, and the parts that it leaves
pub record ResetOutcome : Type 0 where
  pub status : Status
  pub parts : Parts

abbrev pub reset_outcome : Status → Parts → ResetOutcome
reset_outcome s p = record { status = s; parts = p }

-- the board restarted from its loaded records; refused where the cells are shorter than its total
unfoldable pub reset : Parts → ResetOutcome
reset p =
    cond (ltb (length p.cells) (get_or p.cell_offsets windows_max 0))
    (reset_outcome buffer_too_small p)
    (reset_outcome successful (restarted p.header p.records p.cell_offsets p.cells))
