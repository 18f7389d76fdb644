-- Rows with literal numbers of document 01, section "The modelled board": a reset of a board on
-- which nothing is as loaded, and the registers that it copies; the refusal of "Numbers handed
-- back".
use Rattle.std.specs.Prelude.{ℕ, ◌+◌, ◌*◌, ◌<◌, ◌≤◌, [], ◌∷◌, ◌++◌, map, ◌≡◌, pos, neg_ℤ, length, get_or, replicate}
use Rattle.board.specs.Parts.{Parts, parts}
use Rattle.board.specs.Statuses.{number_of}
use Rattle.window_list.specs.Windows.{window_list}
use Rattle.window_list.specs.Kept.{kept_list}
use Rattle.reset.specs.Reset.{reset}

-- one function, whose windows have 4 cells together; registers, kept list, hooks, used marks and
-- the n cells lent are all 7
abbrev board : ℕ → Parts
board n =
    parts (1 ∷ 0 ∷ 0 ∷ 0 ∷ []) (replicate 8704 0) (replicate 4096 7) (replicate 96 7)
    (replicate 96 0 ++ 4 ∷ []) (replicate 48 7) (replicate 32 7) (replicate n 7)

pub record ResetRows : Type 0 where
  -- -7 cells shorter than the board's total; a refused reset leaves everything
  pub statuses : map (λ n. number_of (reset (board n)).status) (0 ∷ 3 ∷ 4 ∷ 5 ∷ [])
      ≡ neg_ℤ (pos 7) ∷ neg_ℤ (pos 7) ∷ pos 0 ∷ pos 0 ∷ []
  pub stays : (reset (board 3)).parts ≡ board 3
  -- as many cells zero as the windows need; those past the total are never written
  pub cells_zero : map (λ n. (reset (board n)).parts.cells) (4 ∷ 6 ∷ [])
      ≡ (0 ∷ 0 ∷ 0 ∷ 0 ∷ []) ∷ (0 ∷ 0 ∷ 0 ∷ 0 ∷ 7 ∷ 7 ∷ []) ∷ []
  -- hooks and marks cleared; no window is open, so the kept list is empty
  pub cleared : (reset (board 4)).parts.hooks ∷ (reset (board 4)).parts.used
      ∷ (reset (board 4)).parts.windows ∷ []
      ≡ replicate 48 0 ∷ replicate 32 0 ∷ replicate 96 0 ∷ []
  -- what was loaded stays: the count, the records, where cells begin
  pub loaded : (reset (board 4)).parts.header ∷ (reset (board 4)).parts.records
      ∷ (reset (board 4)).parts.cell_offsets ∷ []
      ≡ (1 ∷ 0 ∷ 0 ∷ 0 ∷ []) ∷ replicate 8704 0 ∷ (replicate 96 0 ++ 4 ∷ []) ∷ []
  -- registers copied: 256 for each of 16 functions, the first bytes of its record of 544
  pub registers_room : (p : Parts) → get_or p.cell_offsets 96 0 ≤ length p.cells
      → length (reset p).parts.registers ≡ 4096
  pub registers_copied : (p : Parts) (i register : ℕ)
      → get_or p.cell_offsets 96 0 ≤ length p.cells → i < 16 → register < 256
      → get_or (reset p).parts.registers (256 * i + register) 0
      ≡ get_or p.records (544 * i + register) 0
  -- the window list is that of the new registers
  pub windows_anew : (p : Parts) → get_or p.cell_offsets 96 0 ≤ length p.cells
      → (reset p).parts.windows
      ≡ kept_list (window_list p.header p.records (reset p).parts.registers)
