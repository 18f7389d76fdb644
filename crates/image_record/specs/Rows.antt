-- Rows with literal numbers of document 01, "Record rules": each clause at both sides of its
-- boundary, in B1's first record with bytes changed. In a row all other clauses hold.
use Rattle.std.specs.Prelude.{ℕ, ◌+◌, ◌*◌, Bool, true, false, ◌≡◌, replicate, set}
use mathlib.Core.List.{List, [], ◌∷◌, ◌++◌, foldr, map}
use Rattle.image_record.specs.Record.{record_ok}

-- a record with bytes put from a position on
unfoldable pub with_bytes : ℕ → List ℕ → List ℕ → List ℕ
with_bytes at [] r = r
with_bytes at (b ∷ bs) r = set (with_bytes (at + 1) bs r) at b

abbrev four : ℕ → ℕ → ℕ → ℕ → List ℕ
four a b c d = a ∷ b ∷ c ∷ d ∷ []

-- B1's first record: vendor 0F0Fh, device 0001h, command 0003h with mask 0003h, class 118000h, base
-- 0 memory at 80000000h, k 10, order 1, widths 7, line 5 with mask FFh, pin 1; the rest is 0
unfoldable pub b1_first : List ℕ
b1_first =
    with_bytes 0x00 (0x0F ∷ 0x0F ∷ 0x01 ∷ 0x00 ∷ 0x03 ∷ [])
    (with_bytes 0x0A (0x80 ∷ 0x11 ∷ [])
    (with_bytes 0x13 (0x80 ∷ [])
    (with_bytes 0x3C (5 ∷ 1 ∷ [])
    (with_bytes 0x104 (0x03 ∷ [])
    (with_bytes 0x110 (four 0x00 0xFC 0xFF 0xFF)
    (with_bytes 0x13C (0xFF ∷ [])
    (with_bytes 512 (four 10 1 7 0)
    (replicate 544 0))))))))

-- whether it keeps the rules with bytes put from a position on, and with one byte put there
abbrev ok_with : ℕ → List ℕ → Bool
ok_with at bytes = record_ok (with_bytes at bytes b1_first)

abbrev ok_with_byte : ℕ → ℕ → Bool
ok_with_byte at byte = ok_with at (byte ∷ [])

-- whether it keeps them with this register, mask and entry put for base register 0, 1 .. 5
abbrev ok_with_base : List ℕ → List ℕ → List ℕ → List Bool
ok_with_base register mask entry =
    map
    (λ b. record_ok
    (with_bytes (0x10 + 4 * b) register
    (with_bytes (0x110 + 4 * b) mask (with_bytes (512 + 4 * b) entry b1_first))))
    (0 ∷ 1 ∷ 2 ∷ 3 ∷ 4 ∷ 5 ∷ [])

-- four bytes for base 0, and four for each of the others
abbrev of_bases : List ℕ → List ℕ → List ℕ
of_bases first other = first ++ (other ++ (other ++ (other ++ (other ++ other))))

-- a record with 1 in every bit that no rule wants 0: vendor FFFEh, pin 4, base 0 memory with k 16,
-- the others I/O with k 2, order 15
unfoldable pub fullest : List ℕ
fullest =
    with_bytes 0x00 (0xFE ∷ [])
    (with_bytes 0x0E (0x80 ∷ [])
    (with_bytes 0x10 (of_bases (four 0x08 0x00 0xFF 0xFF) (four 0xFD 0xFF 0xFF 0xFF))
    (with_bytes 0x30 (four 0 0 0 0)
    (with_bytes 0x3D (4 ∷ [])
    (with_bytes 0x100 (four 0 0 0 0)
    (with_bytes 0x108 (four 0 0 0 0)
    (with_bytes 0x10E (0 ∷ [])
    (with_bytes 0x110 (of_bases (four 0x00 0x00 0xFF 0xFF) (four 0xFC 0xFF 0xFF 0xFF))
    (with_bytes 0x12C (four 0 0 0 0 ++ four 0 0 0 0)
    (with_bytes 0x13D (0 ∷ [])
    (with_bytes 512 (of_bases (four 16 15 7 0) (four 2 15 7 0))
    (with_bytes 536 (four 0xFF 0xFF 0xFF 0xFC)
    (replicate 544 0xFF)))))))))))))

pub record ImageRecordRows : Type 0 where
  -- no rule is broken
  pub b1 : record_ok b1_first ≡ true
  -- vendor, least byte first, is not FFFFh
  pub vendors :
      map (ok_with 0x00)
      ((0xFF ∷ 0xFF ∷ []) ∷ (0xFE ∷ 0xFF ∷ []) ∷ (0xFF ∷ 0x00 ∷ []) ∷ (0x00 ∷ 0xFF ∷ []) ∷ [])
      ≡ false ∷ true ∷ true ∷ true ∷ []
  -- header type (0Eh) has bits 6..0 zero
  pub header_types :
      map (ok_with_byte 0x0E)
      (0x01 ∷ 0x02 ∷ 0x04 ∷ 0x08 ∷ 0x10 ∷ 0x20 ∷ 0x40 ∷ 0x80 ∷ 0xC0 ∷ [])
      ≡ false ∷ false ∷ false ∷ false ∷ false ∷ false ∷ false ∷ true ∷ false ∷ []
  -- pin (3Dh) is 0 to 4
  pub pins :
      map (ok_with_byte 0x3D) (0 ∷ 4 ∷ 5 ∷ 8 ∷ 0x80 ∷ [])
      ≡ true ∷ true ∷ false ∷ false ∷ false ∷ []
  -- masks are zero at 00h-03h, 08h-0Bh, 0Eh, 2Ch-33h, 3Dh
  pub read_only_masks :
      map (λ register. ok_with_byte (256 + register) 0x01)
      (0x00 ∷ 0x01 ∷ 0x02 ∷ 0x03 ∷ 0x08 ∷ 0x09 ∷ 0x0A ∷ 0x0B ∷ 0x0E
      ∷ 0x2C ∷ 0x2D ∷ 0x2E ∷ 0x2F ∷ 0x30 ∷ 0x31 ∷ 0x32 ∷ 0x33 ∷ 0x3D ∷ [])
      ≡ replicate 18 false
  -- but not beside them, all at once
  pub masks_beside :
      record_ok
      (foldr (λ register. with_bytes (256 + register) (0x01 ∷ [])) b1_first
      (0x04 ∷ 0x07 ∷ 0x0C ∷ 0x0D ∷ 0x0F ∷ 0x2B ∷ 0x34 ∷ 0x3C ∷ 0x3E ∷ []))
      ≡ true
  -- reset values at 30h-33h are zero
  pub rom_values :
      map (λ register. ok_with_byte register 0x01) (0x2F ∷ 0x30 ∷ 0x31 ∷ 0x32 ∷ 0x33 ∷ 0x34 ∷ [])
      ≡ true ∷ false ∷ false ∷ false ∷ false ∷ true ∷ []
  -- base register b is at 10h+4b, least byte first: I/O at 100h, k 2, which memory may not have
  pub bases :
      ok_with_base (four 0x01 0x01 0x00 0x00) (four 0xFC 0xFF 0xFF 0xFF) (four 2 2 1 0)
      ≡ replicate 6 true
  -- each is tested: with order 3
  pub broken_bases :
      ok_with_base (four 0x01 0x01 0x00 0x00) (four 0xFC 0xFF 0xFF 0xFF) (four 2 3 1 0)
      ≡ replicate 6 false
  -- k = 0: the rest of the entry, the register and its mask are zero, here of base 5
  pub no_window :
      map (λ at. ok_with_byte at 0x01) (533 ∷ 534 ∷ 535 ∷ 0x24 ∷ 0x27 ∷ 0x124 ∷ 0x127 ∷ [])
      ≡ replicate 7 false
  -- the offset, highest byte first, is a multiple of 4
  pub offsets :
      map (ok_with 536)
      (four 0 0 0 1 ∷ four 0 0 0 2 ∷ four 0 0 0 3 ∷ four 0 0 0 4
      ∷ four 0x01 0 0 0 ∷ four 0x80 0 0 0 ∷ four 0x80 0 0 2 ∷ [])
      ≡ false ∷ false ∷ false ∷ true ∷ true ∷ true ∷ false ∷ []
  -- no rule is on the dmaoffset
  pub dma_offset : ok_with 540 (four 0x80 0 0 1) ≡ true
  -- and none on any bit beyond these, all at once
  pub free_bits : record_ok fullest ≡ true
