-- Rows with literal numbers of document 01, "Descriptors": the flags, the 20 bytes of a descriptor,
-- and how they are read.
use Rattle.std.specs.Prelude.{ℕ, true, false, List, [], ◌∷◌, map, ◌≡◌}
use Rattle.resource_descriptor.specs.declared.descriptor.Descriptor.{Descriptor}
use Rattle.resource_descriptor.specs.Descriptor.{
  flags,
  descriptor_bytes,
  descriptors_bytes,
  descriptor_at,
  is_last,
}

abbrev descriptor : ℕ → ℕ → ℕ → ℕ → ℕ → ℕ → Descriptor
descriptor next marks start length offset dmaoffset =
    record {
      next = next;
      flags = marks;
      start = start;
      length = length;
      offset = offset;
      dmaoffset = dmaoffset;
    }

-- a descriptor of which no two bytes are alike, and its bytes
abbrev sample : Descriptor
sample = descriptor 0x0014 0xC702 0x81A3C5E7 0x01234567 0x92B4D6F8 0x10325476

abbrev sample_bytes : List ℕ
sample_bytes =
    0x00 ∷ 0x14 ∷ 0xC7 ∷ 0x02 ∷ 0x81 ∷ 0xA3 ∷ 0xC5 ∷ 0xE7 ∷ 0x01 ∷ 0x23 ∷ 0x45 ∷ 0x67
    ∷ 0x92 ∷ 0xB4 ∷ 0xD6 ∷ 0xF8 ∷ 0x10 ∷ 0x32 ∷ 0x54 ∷ 0x76 ∷ []

pub record ResourceDescriptorRows : Type 0 where
  -- 20 bytes, big-endian: next, flags, start, length, offset, dmaoffset
  pub bytes : descriptor_bytes sample ≡ sample_bytes
  -- descriptors one after the other
  pub bytes_of_two :
      descriptors_bytes (descriptor 1 2 3 4 5 6 ∷ descriptor 7 8 9 10 11 12 ∷ [])
      ≡ 0 ∷ 1 ∷ 0 ∷ 2 ∷ 0 ∷ 0 ∷ 0 ∷ 3 ∷ 0 ∷ 0 ∷ 0 ∷ 4 ∷ 0 ∷ 0 ∷ 0 ∷ 5 ∷ 0 ∷ 0 ∷ 0 ∷ 6
      ∷ 0 ∷ 7 ∷ 0 ∷ 8 ∷ 0 ∷ 0 ∷ 0 ∷ 9 ∷ 0 ∷ 0 ∷ 0 ∷ 10 ∷ 0 ∷ 0 ∷ 0 ∷ 11 ∷ 0 ∷ 0 ∷ 0 ∷ 12 ∷ []
  -- read at a position as they were written
  pub read : descriptor_at (0xEE ∷ sample_bytes) 1 ≡ sample
  -- flags: 4000h I/O
  pub io : flags false true 0 0 ≡ 0x4000
  -- 8000h last
  pub last : flags true false 0 0 ≡ 0x8000
  -- 0100h, 0200h, 0400h widths
  pub widths :
      map (λ w. flags false false w 0) (1 ∷ 2 ∷ 4 ∷ 7 ∷ [])
      ≡ 0x0100 ∷ 0x0200 ∷ 0x0400 ∷ 0x0700 ∷ []
  -- of an altered board: widths by bits 0 to 2
  pub other_widths : map (λ w. flags false false w 0) (0 ∷ 8 ∷ 15 ∷ []) ≡ 0 ∷ 0 ∷ 0x0700 ∷ []
  -- order in bits 3..0
  pub orders : map (λ o. flags false false 0 o) (0 ∷ 1 ∷ 2 ∷ 15 ∷ []) ≡ 0 ∷ 1 ∷ 2 ∷ 0xF ∷ []
  -- of an altered board: another byte order as 0
  pub other_orders :
      map (λ o. flags false false 0 o) (3 ∷ 4 ∷ 14 ∷ 16 ∷ 255 ∷ []) ≡ 0 ∷ 0 ∷ 0 ∷ 0 ∷ 0 ∷ []
  -- all of them
  pub together : flags true true 7 15 ≡ 0xC70F
  -- the last mark is told by 8000h alone
  pub marked :
      map (λ m. is_last (descriptor 20 m 1 2 3 4)) (0x7FFF ∷ 0x8000 ∷ 0xC102 ∷ [])
      ≡ false ∷ true ∷ true ∷ []
