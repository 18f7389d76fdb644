-- A small board for rows that document 01 has no case for: one function with 20 cells. Vendor
-- 1234h, device 5678h, class 118001h, command 0003h with mask 0003h, line 15 with mask FFh, pin 4;
-- base 0 memory at FFFFFFF0h with bit 3 set, so that its end is 2^32, k 4, order 1, widths 3; base
-- 1 I/O at 00000104h, k 2, order 15, widths 4; offset F0000010h, dmaoffset 00000007h.
use Rattle.std.specs.Prelude.{ℕ, List, [], ◌∷◌, ◌++◌}
use Rattle.proved_cases.specs.B1.{PlacedByte, at, record_bytes}

abbrev pub small_bytes : List PlacedByte
small_bytes =
    at 0x00 0x34 ∷ at 0x01 0x12 ∷ at 0x02 0x78 ∷ at 0x03 0x56
    ∷ at 0x04 0x03 ∷ at 0x104 0x03
    ∷ at 0x09 0x01 ∷ at 0x0A 0x80 ∷ at 0x0B 0x11
    ∷ at 0x10 0xF8 ∷ at 0x11 0xFF ∷ at 0x12 0xFF ∷ at 0x13 0xFF
    ∷ at 0x110 0xF0 ∷ at 0x111 0xFF ∷ at 0x112 0xFF ∷ at 0x113 0xFF
    ∷ at 0x14 0x05 ∷ at 0x15 0x01
    ∷ at 0x114 0xFC ∷ at 0x115 0xFF ∷ at 0x116 0xFF ∷ at 0x117 0xFF
    ∷ at 0x3C 15 ∷ at 0x13C 0xFF ∷ at 0x3D 4
    ∷ at 512 4 ∷ at 513 1 ∷ at 514 3
    ∷ at 516 2 ∷ at 517 15 ∷ at 518 4
    ∷ at 536 0xF0 ∷ at 539 0x10 ∷ at 543 7 ∷ []

-- an image of one record: the trailer is 556 back, 1 record, edition 1, and the sum's two low bytes
abbrev pub image_with : List PlacedByte → ℕ → ℕ → List ℕ
image_with changes high low =
    record_bytes (changes ++ small_bytes)
    ++ (0 ∷ 0 ∷ 2 ∷ 0x2C ∷ 0 ∷ 1 ∷ 0 ∷ 1 ∷ 0 ∷ 0 ∷ high ∷ low ∷ [])

-- the small board's, of sum 4,035
unfoldable pub small_image : List ℕ
small_image = image_with [] 0x0F 0xC3
