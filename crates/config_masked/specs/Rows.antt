-- Rows with literal numbers of document 01, "Registers", and of document 02, E2 and E4: a byte
-- written through its masks. 5Ah and C3h have every pair of an old and a written bit in each half.
use Rattle.std.specs.Prelude.{ℕ, ◌-◌, List, [], ◌∷◌, map, ◌≡◌}
use Rattle.config_masked.specs.Masked.{written}

-- byte 5Ah after a write of C3h through a mask, with the clear masks 00h, FFh, 0Fh and F0h
abbrev through_clear_masks : ℕ → List ℕ
through_clear_masks mask =
    map (λ clear. written mask clear 0x5A 0xC3) (0x00 ∷ 0xFF ∷ 0x0F ∷ 0xF0 ∷ [])

pub record ConfigMaskedRows : Type 0 where
  -- without a clear mask: the written bits where the mask has 1, the rest kept
  pub masked : map (λ mask. written mask 0 0x5A 0xC3) (0x00 ∷ 0xFF ∷ 0x0F ∷ 0xF0 ∷ [])
      ≡ 0x5A ∷ 0xC3 ∷ 0x53 ∷ 0xCA ∷ []
  -- with a clear mask: old AND NOT written there, the rest kept
  pub cleared : through_clear_masks 0x00 ≡ 0x5A ∷ 0x18 ∷ 0x58 ∷ 0x1A ∷ []
  -- a bit in both masks follows the clear mask
  pub both : through_clear_masks 0xFF ≡ 0xC3 ∷ 0x18 ∷ 0xC8 ∷ 0x13 ∷ []
  -- one half in each mask
  pub halves : map (λ mask. written mask (0xFF - mask) 0x5A 0xC3) (0x0F ∷ 0xF0 ∷ [])
      ≡ 0x13 ∷ 0xC8 ∷ []
  -- writing 0 clears nothing; writing what was read clears every set bit of the clear mask
  pub zero_written : map (λ clear. written 0x00 clear 0xB6 0x00) (0x00 ∷ 0x3C ∷ 0xFF ∷ [])
      ≡ 0xB6 ∷ 0xB6 ∷ 0xB6 ∷ []
  pub own_written : map (λ clear. written 0x00 clear 0xB6 0xB6) (0x00 ∷ 0x3C ∷ 0xFF ∷ [])
      ≡ 0xB6 ∷ 0x82 ∷ 0x00 ∷ []
