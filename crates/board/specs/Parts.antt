-- The lent parts of a board together, as lists (document 01, "The modelled board"): what a call
-- that may touch several of them is said to leave.
use Rattle.std.specs.Prelude.{◌≡◌, ℕ, List, length}
use Rattle.board.specs.declared.parts.Board.{Board}

pub record Parts : Type 0 where
  pub header : List ℕ
  pub records : List ℕ
  pub registers : List ℕ
  pub windows : List ℕ
  pub cell_offsets : List ℕ
  pub hooks : List ℕ
  pub used : List ℕ
  pub cells : List ℕ

abbrev pub parts : List ℕ → List ℕ → List ℕ → List ℕ → List ℕ → List ℕ → List ℕ → List ℕ → Parts
parts header records registers windows cell_offsets hooks used cells =
    record {
      header = header;
      records = records;
      registers = registers;
      windows = windows;
      cell_offsets = cell_offsets;
      hooks = hooks;
      used = used;
      cells = cells;
    }

-- the same board with other registers and another kept list
abbrev pub with_registers : List ℕ → List ℕ → Parts → Parts
with_registers registers windows p =
    parts p.header p.records registers windows
    p.cell_offsets p.hooks p.used p.cells

-- with other cells
abbrev pub with_cells : List ℕ → Parts → Parts
with_cells cells p =
    parts p.header p.records p.registers p.windows
    p.cell_offsets p.hooks p.used cells

-- with other hooks
abbrev pub with_hooks : List ℕ → Parts → Parts
with_hooks hooks p =
    parts p.header p.records p.registers p.windows
    p.cell_offsets hooks p.used p.cells

-- with other used marks
abbrev pub with_used : List ℕ → Parts → Parts
with_used used p =
    parts p.header p.records p.registers p.windows
    p.cell_offsets p.hooks used p.cells

-- the parts that a board lends, as they stand
abbrev pub parts_lent : Board → Parts
parts_lent b =
    parts b.header.now b.records.now b.registers.now b.windows.now b.offsets.now b.hooks.now
    b.used.now b.cells.now

-- a call on a board leaves it the same loans, and as many cells: what it writes, it writes to the
-- parts themselves
pub record SameLoans (b c : Board) : Type 0 where
  pub header : c.header.ghost_name ≡ b.header.ghost_name
  pub records : c.records.ghost_name ≡ b.records.ghost_name
  pub registers : c.registers.ghost_name ≡ b.registers.ghost_name
  pub windows : c.windows.ghost_name ≡ b.windows.ghost_name
  pub offsets : c.offsets.ghost_name ≡ b.offsets.ghost_name
  pub hooks : c.hooks.ghost_name ≡ b.hooks.ghost_name
  pub used : c.used.ghost_name ≡ b.used.ghost_name
  pub cells : c.cells.ghost_name ≡ b.cells.ghost_name
  pub room : length c.cells.now ≡ length b.cells.now
