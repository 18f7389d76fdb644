-- Rows with literal numbers of document 01, sections "The modelled board" and "Load refusals": what
-- a load leaves of a board on which nothing was zero, and that a refused one leaves all.
use Rattle.std.specs.Prelude.{ℕ, ◌<◌, ◌≤◌, List, [], ◌∷◌, ◌++◌, map, ◌≡◌, pos, length, get_or, replicate}
use Rattle.board.specs.Parts.{Parts, parts}
use Rattle.image_refusals.specs.Refusals.{refused, verdict_number}
use Rattle.image_refusals.specs.declared.verdict.ImageRefusal.TheVariants.{Length}
use Rattle.image_refusals.specs.Rows.{handed}
use Rattle.image_check.specs.Rows.{verdict, port_record, one_record}
use Rattle.load.specs.Load.{load_outcome, load, load_any_length}

-- every byte and number of the board is 7, and n cells are lent
abbrev board : ℕ → Parts
board n =
    parts (replicate 4 7) (replicate 8704 7) (replicate 4096 7) (replicate 96 7)
    (replicate 97 7) (replicate 48 7) (replicate 32 7) (replicate n 7)

-- one function, whose base register 0 is I/O with 4 cells and the value 1
abbrev image : List ℕ
image = port_record ++ one_record 0x03 0xFD

-- the parts of a board but for its windows, and of its registers command and base register 0
abbrev seen : Parts → List (List ℕ)
seen p =
    p.header ∷ p.records ∷ (get_or p.registers 0x04 0 ∷ get_or p.registers 0x10 0 ∷ [])
    ∷ p.cell_offsets ∷ p.hooks ∷ p.used ∷ p.cells ∷ []

pub record LoadRows : Type 0 where
  -- registers copied, as many cells zeroed as the windows need, hooks and marks cleared; zeros
  -- after the last record, and cells past the total are never written
  pub loaded : seen (load (board 6) image).parts
      ≡ (1 ∷ 0 ∷ 0 ∷ 0 ∷ []) ∷ (port_record ++ replicate 8160 0) ∷ (0 ∷ 1 ∷ [])
      ∷ (0 ∷ replicate 96 4) ∷ replicate 48 0 ∷ replicate 32 0
      ∷ (0 ∷ 0 ∷ 0 ∷ 0 ∷ 7 ∷ 7 ∷ []) ∷ []
  -- 8 with one cell less than the windows need, 0 with as many
  pub verdicts : map (λ n. handed (load (board n) image).verdict) (3 ∷ 4 ∷ [])
      ≡ verdict 8 0 ∷ verdict 0 0 ∷ []
  -- 1 for every image that is longer than 65,536 bytes
  pub too_long : (p : Parts) (image : List ℕ) → 65536 < length image
      → load p image ≡ load_outcome (refused Length) p
  pub too_long_number : (p : Parts) (image : List ℕ) → 65536 < length image
      → handed (load p image).verdict ≡ verdict 1 0
  -- the old board stays
  pub refused_stays : (p : Parts) (image : List ℕ)
      → (verdict_number (load p image).verdict ≡ pos 0 → ⊥) → (load p image).parts ≡ p
  -- an image that comes in portions loads as any other of so many bytes
  pub portions : (p : Parts) (image : List ℕ) → length image ≤ 65536
      → load_any_length p image ≡ load p image
