-- The cells of the windows: document 01, "The modelled board". k i b is the length exponent of base
-- register b of the function at place i.
use Rattle.std.specs.Prelude.{ℕ, zero, suc, ◌+◌, ◌/◌, ◌%◌, List, ◌++◌, drop, replicate}
use Rattle.numbers.specs.Tables.{table}
use Rattle.board.specs.Layout.{bases, windows_max}
use Rattle.window.specs.Window.{window_length}

-- the cells of slot s, which is base register s % 6 of the function at place s / 6: function order,
-- then base register order
abbrev pub slot_cells : (ℕ → ℕ → ℕ) → ℕ → ℕ
slot_cells k s = window_length (k (s / bases) (s % bases))

-- where the cells of slot s begin: no gaps
unfoldable pub cells_before : (ℕ → ℕ → ℕ) → ℕ → ℕ
cells_before k zero = 0
cells_before k (suc s) = cells_before k s + slot_cells k s

-- all lengths together
abbrev pub total : (ℕ → ℕ → ℕ) → ℕ
total k = cells_before k windows_max

-- the kept offsets: of every slot, then the total
abbrev pub offsets_of : (ℕ → ℕ → ℕ) → List ℕ
offsets_of k = table (windows_max + 1) (cells_before k)

-- the first n cells zero, the rest as they were
abbrev pub zeroed : ℕ → List ℕ → List ℕ
zeroed n cells = replicate n 0 ++ drop n cells
