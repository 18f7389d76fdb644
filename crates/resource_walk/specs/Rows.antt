-- Rows with literal numbers of document 01, "Descriptors", last sentence: walks through 60 bytes.
use Rattle.std.specs.Prelude.{ℕ, List, [], ◌∷◌, ◌++◌, map, ◌≡◌, take, Some}
use Rattle.numbers.specs.Numbers.{big_bytes}
use Rattle.numbers.specs.Tables.{table_from}
use Rattle.resource_walk.specs.Walk.{step, step_at, walk, stands}

-- 60 bytes that begin with next and flags; each byte after them is its own position, so that the
-- next field at 20 is 1415h, the one at 21 is 1516h
abbrev starting : ℕ → ℕ → List ℕ
starting next flags = big_bytes 2 next ++ (big_bytes 2 flags ++ table_from 4 56 (λ i. i))

-- the next fields of the descriptors that a walk from 0 hands back
abbrev walked : List ℕ → List ℕ
walked bytes = map (λ d. d.next) (walk bytes 0)

pub record ResourceWalkRows : Type 0 where
  -- it steps by the next field; it stops after a descriptor with next below 20
  pub nexts :
      map (λ n. walked (starting n 0)) (0 ∷ 19 ∷ 20 ∷ 21 ∷ [])
      ≡ (0 ∷ []) ∷ (19 ∷ []) ∷ (20 ∷ 0x1415 ∷ []) ∷ (21 ∷ 0x1516 ∷ []) ∷ []
  -- where 20 bytes do not remain after the step, and where it would pass the end
  pub past :
      map (λ n. walked (starting n 0)) (40 ∷ 41 ∷ 60 ∷ 61 ∷ [])
      ≡ (40 ∷ 0x2829 ∷ []) ∷ (41 ∷ []) ∷ (60 ∷ []) ∷ (61 ∷ []) ∷ []
  -- of so many bytes: none, 19 and 20, and those left after the first descriptor
  pub left :
      map (λ n. walked (take n (starting 20 0))) (0 ∷ 19 ∷ 20 ∷ 39 ∷ 40 ∷ [])
      ≡ [] ∷ [] ∷ (20 ∷ []) ∷ (20 ∷ []) ∷ (20 ∷ 0x1415 ∷ []) ∷ []
  -- after a descriptor with the last mark
  pub last :
      map (λ f. walked (starting 20 f)) (0x7FFF ∷ 0x8000 ∷ 0xC102 ∷ [])
      ≡ (20 ∷ 0x1415 ∷ []) ∷ (20 ∷ []) ∷ (20 ∷ []) ∷ []
  -- all fields at a position, and the position after them: 30 + 1E1Fh
  pub fields :
      step_at (starting 20 0) 30
      ≡ Some
      (step
      (record {
        next = 0x1E1F;
        flags = 0x2021;
        start = 0x22232425;
        length = 0x26272829;
        offset = 0x2A2B2C2D;
        dmaoffset = 0x2E2F3031;
      })
      7741)
  -- after one step it stands on the next descriptor, or at the end of the bytes
  pub stood :
      map (λ n. stands 1 (starting n 0) 0) (19 ∷ 20 ∷ 21 ∷ []) ≡ 60 ∷ 20 ∷ 21 ∷ []
  -- once it has stopped it stays
  pub stayed :
      map (λ at. stands 3 (starting 20 0) at) (41 ∷ 60 ∷ 99 ∷ []) ≡ 41 ∷ 60 ∷ 99 ∷ []
