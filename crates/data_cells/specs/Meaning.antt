-- What reads and writes of cells mean, without the proofs: document 01, "Data and byte order".
use Rattle.std.specs.Prelude.{ℕ, ◌+◌, ◌%◌, ◌^◌, ◌<◌, ◌≤◌, List, ◌⊎◌, ◌≡◌, length, get_or}
use Rattle.data_cells.specs.Cells.{cells_value, cells_after}

-- a read after a write of the same width at the same cells gives the value written, in every order
abbrev pub ReadBack : Type 0
ReadBack =
    (order w at value : ℕ) (cells : List ℕ) → at + w ≤ length cells
    → cells_value order w at (cells_after order w at value cells) ≡ value % 256 ^ w

-- a write changes only the cells of its width
pub record OthersKept (order w at value : ℕ) (cells : List ℕ) : Type 0 where
  pub room : length (cells_after order w at value cells) ≡ length cells
  pub same : (j : ℕ) → (j < at) ⊎ (at + w ≤ j)
      → get_or (cells_after order w at value cells) j 0 ≡ get_or cells j 0

abbrev pub OnlyItsCells : Type 0
OnlyItsCells = (order w at value : ℕ) (cells : List ℕ) → OthersKept order w at value cells
