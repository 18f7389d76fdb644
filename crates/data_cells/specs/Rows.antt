-- Rows with literal numbers of document 01, "Data and byte order" and P13: what is read of literal
-- cells in each byte order, what a write leaves there, and where the cells of an access stand.
use Rattle.std.specs.Prelude.{ℕ, List, [], ◌∷◌, map, ◌≡◌, Err}
use Rattle.data_order.specs.Orders.{cell_distance}
use Rattle.data_window.specs.Find.{found}
use Rattle.data_window.specs.declared.refusal.DataRefusal.TheVariants.{Contested, PastBuffer}
use Rattle.data_cells.specs.Cells.{cells_from, cells_at, cell_target_in, cells_value, cells_after}

-- the cells of P13, and four more
abbrev eight : List ℕ
eight = 0x11 ∷ 0x22 ∷ 0x33 ∷ 0x44 ∷ 0x55 ∷ 0x66 ∷ 0x77 ∷ 0x88 ∷ []

-- what is read of w cells for a distance from the window's start
abbrev value_at : ℕ → ℕ → ℕ → ℕ
value_at order w o = cells_value order w (cell_distance order w o) eight

-- bytes at 0, 3 and 5, words at 0, 2 and 6, longwords at 0 and 4
abbrev readings : ℕ → List (List ℕ)
readings order =
    map (value_at order 1) (0 ∷ 3 ∷ 5 ∷ [])
    ∷ map (value_at order 2) (0 ∷ 2 ∷ 6 ∷ [])
    ∷ map (value_at order 4) (0 ∷ 4 ∷ [])
    ∷ []

-- as the cells stand
abbrev plain_readings : List (List ℕ)
plain_readings =
    (0x11 ∷ 0x44 ∷ 0x66 ∷ [])
    ∷ (0x1122 ∷ 0x3344 ∷ 0x7788 ∷ [])
    ∷ (0x11223344 ∷ 0x55667788 ∷ [])
    ∷ []

-- what a write of 89ABCDEFh, of which the low w bytes are taken, leaves of the cells
abbrev left_by : ℕ → ℕ → ℕ → List ℕ
left_by order w o = cells_after order w (cell_distance order w o) 0x89ABCDEF eight

-- bytes at 0 and 3, words at 0 and 2, longwords at 0 and 4
abbrev writings : ℕ → List (List ℕ)
writings order =
    left_by order 1 0
    ∷ left_by order 1 3
    ∷ left_by order 2 0
    ∷ left_by order 2 2
    ∷ left_by order 4 0
    ∷ left_by order 4 4
    ∷ []

abbrev plain_writings : List (List ℕ)
plain_writings =
    (0xEF ∷ 0x22 ∷ 0x33 ∷ 0x44 ∷ 0x55 ∷ 0x66 ∷ 0x77 ∷ 0x88 ∷ [])
    ∷ (0x11 ∷ 0x22 ∷ 0x33 ∷ 0xEF ∷ 0x55 ∷ 0x66 ∷ 0x77 ∷ 0x88 ∷ [])
    ∷ (0xCD ∷ 0xEF ∷ 0x33 ∷ 0x44 ∷ 0x55 ∷ 0x66 ∷ 0x77 ∷ 0x88 ∷ [])
    ∷ (0x11 ∷ 0x22 ∷ 0xCD ∷ 0xEF ∷ 0x55 ∷ 0x66 ∷ 0x77 ∷ 0x88 ∷ [])
    ∷ (0x89 ∷ 0xAB ∷ 0xCD ∷ 0xEF ∷ 0x55 ∷ 0x66 ∷ 0x77 ∷ 0x88 ∷ [])
    ∷ (0x11 ∷ 0x22 ∷ 0x33 ∷ 0x44 ∷ 0x89 ∷ 0xAB ∷ 0xCD ∷ 0xEF ∷ [])
    ∷ []

-- two functions whose base registers have their cells at 0, 100, 200 .. 1100
abbrev hundreds : List ℕ
hundreds = 0 ∷ 100 ∷ 200 ∷ 300 ∷ 400 ∷ 500 ∷ 600 ∷ 700 ∷ 800 ∷ 900 ∷ 1000 ∷ 1100 ∷ []

pub record DataCellsRows : Type 0 where
  -- cells are read high byte first; order 0 and 15 use o, another order is read as 0
  pub readings0 : readings 0 ≡ plain_readings
  pub readings15 : readings 15 ≡ plain_readings
  pub readings3 : readings 3 ≡ plain_readings
  -- order 1 uses o XOR 3 for bytes, o XOR 2 for words, o for longwords
  pub readings1 : readings 1
      ≡ (0x44 ∷ 0x11 ∷ 0x77 ∷ [])
      ∷ (0x3344 ∷ 0x1122 ∷ 0x5566 ∷ [])
      ∷ (0x11223344 ∷ 0x55667788 ∷ [])
      ∷ []
  -- order 2 uses o and reverses the bytes of words and longwords
  pub readings2 : readings 2
      ≡ (0x11 ∷ 0x44 ∷ 0x66 ∷ [])
      ∷ (0x2211 ∷ 0x4433 ∷ 0x8877 ∷ [])
      ∷ (0x44332211 ∷ 0x88776655 ∷ [])
      ∷ []
  -- writing stores so that the same read gives it back, and changes only the cells of its width
  pub writings0 : writings 0 ≡ plain_writings
  pub writings15 : writings 15 ≡ plain_writings
  pub writings3 : writings 3 ≡ plain_writings
  pub writings1 : writings 1
      ≡ (0x11 ∷ 0x22 ∷ 0x33 ∷ 0xEF ∷ 0x55 ∷ 0x66 ∷ 0x77 ∷ 0x88 ∷ [])
      ∷ (0xEF ∷ 0x22 ∷ 0x33 ∷ 0x44 ∷ 0x55 ∷ 0x66 ∷ 0x77 ∷ 0x88 ∷ [])
      ∷ (0x11 ∷ 0x22 ∷ 0xCD ∷ 0xEF ∷ 0x55 ∷ 0x66 ∷ 0x77 ∷ 0x88 ∷ [])
      ∷ (0xCD ∷ 0xEF ∷ 0x33 ∷ 0x44 ∷ 0x55 ∷ 0x66 ∷ 0x77 ∷ 0x88 ∷ [])
      ∷ (0x89 ∷ 0xAB ∷ 0xCD ∷ 0xEF ∷ 0x55 ∷ 0x66 ∷ 0x77 ∷ 0x88 ∷ [])
      ∷ (0x11 ∷ 0x22 ∷ 0x33 ∷ 0x44 ∷ 0x89 ∷ 0xAB ∷ 0xCD ∷ 0xEF ∷ [])
      ∷ []
  pub writings2 : writings 2
      ≡ (0xEF ∷ 0x22 ∷ 0x33 ∷ 0x44 ∷ 0x55 ∷ 0x66 ∷ 0x77 ∷ 0x88 ∷ [])
      ∷ (0x11 ∷ 0x22 ∷ 0x33 ∷ 0xEF ∷ 0x55 ∷ 0x66 ∷ 0x77 ∷ 0x88 ∷ [])
      ∷ (0xEF ∷ 0xCD ∷ 0x33 ∷ 0x44 ∷ 0x55 ∷ 0x66 ∷ 0x77 ∷ 0x88 ∷ [])
      ∷ (0x11 ∷ 0x22 ∷ 0xEF ∷ 0xCD ∷ 0x55 ∷ 0x66 ∷ 0x77 ∷ 0x88 ∷ [])
      ∷ (0xEF ∷ 0xCD ∷ 0xAB ∷ 0x89 ∷ 0x55 ∷ 0x66 ∷ 0x77 ∷ 0x88 ∷ [])
      ∷ (0x11 ∷ 0x22 ∷ 0x33 ∷ 0x44 ∷ 0xEF ∷ 0xCD ∷ 0xAB ∷ 0x89 ∷ [])
      ∷ []
  -- a longword at 4 of cells from 16 on: in 24 cells its last is the buffer's last, in 23 it is
  -- past the buffer; so too a byte at 4 that order 1 has at 7
  pub last_cell : map (λ room. cells_at 16 0 room 4 4) (24 ∷ 23 ∷ [])
      ≡ cells_from 20 0 ∷ Err PastBuffer ∷ []
  pub last_moved : map (λ room. cells_at 16 1 room 1 4) (24 ∷ 23 ∷ [])
      ≡ cells_from 23 1 ∷ Err PastBuffer ∷ []
  -- the cells of base register 2 of the first function begin at 200, of the second at 800
  pub own_cells : map (λ i. cell_target_in [] hundreds 1200 1 i (found 2 3 13)) (0 ∷ 1 ∷ [])
      ≡ cells_from 203 0 ∷ cells_from 803 0 ∷ []
  -- where no window is found there are no cells
  pub no_window : cell_target_in [] hundreds 1200 1 0 (Err Contested) ≡ Err Contested
