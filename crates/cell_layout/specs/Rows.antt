-- Rows with literal numbers of document 01, section "The modelled board": how many cells the
-- windows have, where they begin, and cells zeroed.
use Rattle.std.specs.Prelude.{ℕ, List, [], ◌∷◌, ◌++◌, map, ◌≡◌, get_or, replicate}
use Rattle.cell_layout.specs.Cells.{cells_before, total, offsets_of, zeroed}

-- length exponents in a list for each function; 0 where none is given
abbrev exponents : List (List ℕ) → ℕ → ℕ → ℕ
exponents l i b = get_or (get_or l i []) b 0

-- k 4 and k 2 of handle 1, k 3 and k 5 of handle 2
abbrev two : ℕ → ℕ → ℕ
two = exponents ((4 ∷ 2 ∷ []) ∷ (3 ∷ 0 ∷ 5 ∷ []) ∷ [])

pub record CellLayoutRows : Type 0 where
  -- as many cells as the window is long; k 0, 1 and 17 have none
  pub lengths : map (λ k. total (exponents ((k ∷ []) ∷ [])))
      (0 ∷ 1 ∷ 2 ∷ 3 ∷ 4 ∷ 16 ∷ 17 ∷ [])
      ≡ 0 ∷ 0 ∷ 4 ∷ 8 ∷ 16 ∷ 65536 ∷ 0 ∷ []
  -- all lengths together, up to base register 5 of handle 16
  pub totals : map (λ l. total (exponents l))
      ([] ∷ ((4 ∷ 2 ∷ []) ∷ []) ∷ ((4 ∷ 2 ∷ []) ∷ (3 ∷ 0 ∷ 5 ∷ []) ∷ [])
      ∷ (replicate 15 [] ++ (0 ∷ 0 ∷ 0 ∷ 0 ∷ 0 ∷ 4 ∷ []) ∷ [])
      ∷ (replicate 16 [] ++ (4 ∷ []) ∷ []) ∷ [])
      ≡ 0 ∷ 20 ∷ 60 ∷ 16 ∷ 0 ∷ []
  -- function order, then base register order, no gaps: 0, 16 | 20, 28 of 60
  pub beginnings : map (cells_before two) (0 ∷ 1 ∷ 2 ∷ 6 ∷ 7 ∷ 8 ∷ 9 ∷ [])
      ≡ 0 ∷ 16 ∷ 20 ∷ 20 ∷ 28 ∷ 28 ∷ 60 ∷ []
  -- kept for all 96 base registers, then the total
  pub kept : offsets_of two ≡ 0 ∷ 16 ∷ replicate 5 20 ++ (28 ∷ 28 ∷ replicate 88 60)
  -- so many cells zero, whatever they were; bytes past them are never written
  pub zeros : map (λ n. zeroed n (9 ∷ 8 ∷ 7 ∷ 6 ∷ [])) (0 ∷ 1 ∷ 3 ∷ 4 ∷ [])
      ≡ (9 ∷ 8 ∷ 7 ∷ 6 ∷ []) ∷ (0 ∷ 8 ∷ 7 ∷ 6 ∷ []) ∷ (0 ∷ 0 ∷ 0 ∷ 6 ∷ []) ∷ (0 ∷ 0 ∷ 0 ∷ 0 ∷ [])
      ∷ []
