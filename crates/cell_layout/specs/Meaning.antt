-- What the offsets of cells mean (document 01, "The modelled board"): a statement alone, proved in
-- proofs/Ranges.antt.
use Rattle.std.specs.Prelude.{ℕ, ◌+◌, ◌<◌, ◌≤◌, List, ◌≡◌, get_or}
use Rattle.board.specs.Layout.{windows_max}
use Rattle.cell_layout.specs.Cells.{slot_cells, total, offsets_of}

-- the ranges of cells: from 0, each where the one before it ends, apart from all later ones, up to
-- the total
pub record InOrder (k : ℕ → ℕ → ℕ) (offsets : List ℕ) : Type 0 where
  pub first : get_or offsets 0 0 ≡ 0
  pub next : (s : ℕ) → s < windows_max → get_or offsets (s + 1) 0 ≡ get_or offsets s 0 + slot_cells k s
  pub apart : (s t : ℕ) → s < t → t ≤ windows_max
      → get_or offsets s 0 + slot_cells k s ≤ get_or offsets t 0
  pub last : get_or offsets windows_max 0 ≡ total k

abbrev pub CellRanges : Type 0
CellRanges = (k : ℕ → ℕ → ℕ) → InOrder k (offsets_of k)
