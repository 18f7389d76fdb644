-- Rows with literal numbers of document 01, "Data and byte order" and "What the promises say":
-- where the cells stand in each byte order, and how they hold a value.
use Rattle.std.specs.Prelude.{ℕ, List, [], ◌∷◌, map, ◌≡◌}
use Rattle.data_order.specs.Orders.{cell_distance, ordered}

-- where bytes stand for the distances 0, 1, 3 and 6, words for 0, 2 and 4, longwords for 0 and 4
abbrev distances : ℕ → List (List ℕ)
distances order =
    map (cell_distance order 1) (0 ∷ 1 ∷ 3 ∷ 6 ∷ [])
    ∷ map (cell_distance order 2) (0 ∷ 2 ∷ 4 ∷ [])
    ∷ map (cell_distance order 4) (0 ∷ 4 ∷ [])
    ∷ []

-- for each distance o at o
abbrev unmoved : List (List ℕ)
unmoved = (0 ∷ 1 ∷ 3 ∷ 6 ∷ []) ∷ (0 ∷ 2 ∷ 4 ∷ []) ∷ (0 ∷ 4 ∷ []) ∷ []

-- a byte, a word and a longword as the cells hold them
abbrev values : ℕ → List ℕ
values order = ordered order 1 0x12 ∷ ordered order 2 0x1234 ∷ ordered order 4 0x12345678 ∷ []

abbrev unreversed : List ℕ
unreversed = 0x12 ∷ 0x1234 ∷ 0x12345678 ∷ []

pub record DataOrderRows : Type 0 where
  -- order 0 and 15 use o
  pub distances0 : distances 0 ≡ unmoved
  pub distances15 : distances 15 ≡ unmoved
  -- order 1 uses o XOR 3 for bytes, o XOR 2 for words, o for longwords
  pub distances1 : distances 1
      ≡ (3 ∷ 2 ∷ 0 ∷ 5 ∷ []) ∷ (2 ∷ 0 ∷ 6 ∷ []) ∷ (0 ∷ 4 ∷ []) ∷ []
  -- order 2 uses o
  pub distances2 : distances 2 ≡ unmoved
  -- another byte order is read as 0
  pub distances3 : distances 3 ≡ unmoved
  -- no order but 2 reverses bytes
  pub values0 : values 0 ≡ unreversed
  pub values15 : values 15 ≡ unreversed
  pub values1 : values 1 ≡ unreversed
  -- order 2 reverses the bytes of words and longwords
  pub values2 : values 2 ≡ 0x12 ∷ 0x3412 ∷ 0x78563412 ∷ []
  pub values3 : values 3 ≡ unreversed
