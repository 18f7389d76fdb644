-- Rows with literal numbers of document 01, "Numbers handed back", Resource, and "Descriptors": the
-- calls of a small board.
use Rattle.std.specs.Prelude.{ℕ, List, [], ◌∷◌, ◌++◌, map, ◌≡◌, pos, neg_ℤ, get_or, replicate}
use Rattle.board.specs.Statuses.{number_of}
use Rattle.window.specs.Kept.{pack}
use Rattle.window.specs.Rows.{mem, clear, contested}
use Rattle.resource_descriptor.specs.declared.descriptor.Descriptor.{Descriptor}
use Rattle.resource.specs.Resource.{
  window_bases,
  descriptors,
  ResourceOutcome,
  source_of,
  get_resource,
}

-- three functions. Handle 1 has windows at base registers 0 and 2. Handle 2 has them at 0, 2, 3 and
-- 5, none at 1 and 4; both offsets are set. Handle 3 has none
abbrev records : List ℕ
records =
    replicate 512 0
    ++ (10 ∷ 0 ∷ 4 ∷ 0 ∷ 0 ∷ 0 ∷ 0 ∷ 0 ∷ 16 ∷ 0 ∷ 1 ∷ 0 ∷ replicate 20 0
    ++ (replicate 512 0
    ++ (10 ∷ 1 ∷ 7 ∷ 0 ∷ 0 ∷ 0 ∷ 0 ∷ 0 ∷ 16 ∷ 15 ∷ 6 ∷ 0
    ∷ 4 ∷ 2 ∷ 1 ∷ 0 ∷ 0 ∷ 0 ∷ 0 ∷ 0 ∷ 8 ∷ 0 ∷ 2 ∷ 0
    ∷ 0x11 ∷ 0x22 ∷ 0x33 ∷ 0x44 ∷ 0x55 ∷ 0x66 ∷ 0x77 ∷ 0x88 ∷ replicate 544 0)))

-- the memory command bits of handles 1 and 2 are set and the I/O bits are not. Handle 2's base
-- register 5 is I/O, at 2000h
abbrev registers : List ℕ
registers =
    0 ∷ 0 ∷ 0 ∷ 0 ∷ 2 ∷ replicate 11 0
    ++ (0 ∷ 0 ∷ 0 ∷ 0x40 ∷ 0 ∷ 0 ∷ 0 ∷ 0 ∷ 0 ∷ 0 ∷ 0 ∷ 0xC0 ∷ replicate 228 0
    ++ (0 ∷ 0 ∷ 0 ∷ 0 ∷ 2 ∷ replicate 11 0
    ++ (0 ∷ 4 ∷ 0 ∷ 0x80 ∷ 0 ∷ 0 ∷ 0 ∷ 0 ∷ 0 ∷ 0 ∷ 0 ∷ 0xC0
    ∷ 0 ∷ 0 ∷ 0 ∷ 0xA0 ∷ 0 ∷ 0 ∷ 0 ∷ 0 ∷ 1 ∷ 0x20 ∷ 0 ∷ 0 ∷ replicate 472 0)))

-- the open windows: start, length, handle, base register, mark
abbrev windows : List ℕ
windows =
    map pack
    (mem 0x40000000 0x400 1 0 clear
    ∷ mem 0x80000400 0x400 2 0 clear
    ∷ mem 0xA0000000 0x10 2 3 clear
    ∷ mem 0xC0000000 0x10000 1 2 contested
    ∷ mem 0xC0000000 0x10000 2 2 contested
    ∷ [])

abbrev called : ℕ → List ℕ → ResourceOutcome
called handle out = get_resource (3 ∷ 0 ∷ 0 ∷ 0 ∷ []) records registers windows handle out

-- the descriptors of handle 2
abbrev shown : List Descriptor
shown = descriptors (source_of records registers windows 2)

pub record ResourceRows : Type 0 where
  -- -9, also where there are no windows (4) or their descriptors do not fit (0)
  pub bad_handle : map (λ h. number_of (called h []).status) (0 ∷ 4 ∷ [])
      ≡ neg_ℤ (pos 9) ∷ neg_ℤ (pos 9) ∷ []
  -- -8 no windows, also where no descriptor would fit
  pub no_windows :
      map (λ n. number_of (called 3 (replicate n 0xEE)).status) (0 ∷ 19 ∷ 20 ∷ [])
      ≡ neg_ℤ (pos 8) ∷ neg_ℤ (pos 8) ∷ neg_ℤ (pos 8) ∷ []
  -- -7: two windows take 40 bytes, four take 80
  pub room1 :
      map (λ n. number_of (called 1 (replicate n 0xEE)).status) (39 ∷ 40 ∷ [])
      ≡ neg_ℤ (pos 7) ∷ pos 0 ∷ []
  pub room2 :
      map (λ n. number_of (called 2 (replicate n 0xEE)).status) (79 ∷ 80 ∷ [])
      ≡ neg_ℤ (pos 7) ∷ pos 0 ∷ []
  -- a refused call leaves the buffer
  pub refused :
      map (λ h. (called h (1 ∷ 2 ∷ 3 ∷ [])).out) (0 ∷ 3 ∷ 2 ∷ [])
      ≡ (1 ∷ 2 ∷ 3 ∷ []) ∷ (1 ∷ 2 ∷ 3 ∷ []) ∷ (1 ∷ 2 ∷ 3 ∷ []) ∷ []
  -- the six base registers in their order, those with k 0 left out; of an altered board: k outside
  -- 2..16 as no window
  pub six : window_bases (λ b. 4) ≡ 0 ∷ 1 ∷ 2 ∷ 3 ∷ 4 ∷ 5 ∷ []
  pub gaps :
      window_bases (λ b. get_or (0 ∷ 1 ∷ 2 ∷ 16 ∷ 17 ∷ 4 ∷ []) b 0) ≡ 2 ∷ 3 ∷ 5 ∷ []
  -- handle 2, at base registers 0, 2, 3 and 5: next
  pub nexts : map (λ d. d.next) shown ≡ 20 ∷ 20 ∷ 20 ∷ 20 ∷ []
  -- flags: the last mark is on the last window, which is closed
  pub flags : map (λ d. d.flags) shown ≡ 0x0701 ∷ 0x060F ∷ 0x0102 ∷ 0xC200 ∷ []
  -- start: 0 of the second, which is contested, and of the last
  pub starts : map (λ d. d.start) shown ≡ 0x80000400 ∷ 0 ∷ 0xA0000000 ∷ 0 ∷ []
  pub lengths : map (λ d. d.length) shown ≡ 0x400 ∷ 0x10000 ∷ 0x10 ∷ 0x100 ∷ []
  pub offsets :
      map (λ d. d.offset) shown ≡ 0x11223344 ∷ 0x11223344 ∷ 0x11223344 ∷ 0x11223344 ∷ []
  pub dmaoffsets :
      map (λ d. d.dmaoffset) shown ≡ 0x55667788 ∷ 0x55667788 ∷ 0x55667788 ∷ 0x55667788 ∷ []
  -- their bytes, and bytes past the last descriptor stay
  pub bytes :
      (called 2 (replicate 83 0xEE)).out
      ≡ 0 ∷ 20 ∷ 0x07 ∷ 0x01 ∷ 0x80 ∷ 0x00 ∷ 0x04 ∷ 0x00 ∷ 0 ∷ 0 ∷ 0x04 ∷ 0x00
      ∷ 0x11 ∷ 0x22 ∷ 0x33 ∷ 0x44 ∷ 0x55 ∷ 0x66 ∷ 0x77 ∷ 0x88
      ∷ 0 ∷ 20 ∷ 0x06 ∷ 0x0F ∷ 0 ∷ 0 ∷ 0 ∷ 0 ∷ 0 ∷ 1 ∷ 0 ∷ 0
      ∷ 0x11 ∷ 0x22 ∷ 0x33 ∷ 0x44 ∷ 0x55 ∷ 0x66 ∷ 0x77 ∷ 0x88
      ∷ 0 ∷ 20 ∷ 0x01 ∷ 0x02 ∷ 0xA0 ∷ 0x00 ∷ 0x00 ∷ 0x00 ∷ 0 ∷ 0 ∷ 0 ∷ 0x10
      ∷ 0x11 ∷ 0x22 ∷ 0x33 ∷ 0x44 ∷ 0x55 ∷ 0x66 ∷ 0x77 ∷ 0x88
      ∷ 0 ∷ 20 ∷ 0xC2 ∷ 0x00 ∷ 0 ∷ 0 ∷ 0 ∷ 0 ∷ 0 ∷ 0 ∷ 1 ∷ 0
      ∷ 0x11 ∷ 0x22 ∷ 0x33 ∷ 0x44 ∷ 0x55 ∷ 0x66 ∷ 0x77 ∷ 0x88
      ∷ 0xEE ∷ 0xEE ∷ 0xEE ∷ []
