-- Board B1 as the bytes of its image: document 01, "Board B1 and its cases".
use Rattle.std.specs.Prelude.{ℕ, List, [], ◌∷◌, ◌++◌, replicate, set}
use Rattle.board.specs.Layout.{record_size}

-- a byte and its position in a record; bytes not named are 0
pub record PlacedByte : Type 0 where
  pub position : ℕ
  pub value : ℕ

abbrev pub at : ℕ → ℕ → PlacedByte
at position value = record { position = position; value = value }

unfoldable pub record_bytes : List PlacedByte → List ℕ
record_bytes [] = replicate record_size 0
record_bytes (b ∷ bs) = set (record_bytes bs) b.position b.value

-- vendor 0F0Fh, device 0001h, command 0003h with mask 0003h, class 118000h, line 5 with mask FFh,
-- pin 1
abbrev pub both : List PlacedByte
both =
    at 0x00 0x0F ∷ at 0x01 0x0F ∷ at 0x02 0x01
    ∷ at 0x04 0x03 ∷ at 0x104 0x03
    ∷ at 0x0A 0x80 ∷ at 0x0B 0x11
    ∷ at 0x3C 5 ∷ at 0x13C 0xFF ∷ at 0x3D 1 ∷ []

-- base 0: k 10, order 1, widths 7, with its mask
abbrev pub memory : List PlacedByte
memory = at 0x111 0xFC ∷ at 0x112 0xFF ∷ at 0x113 0xFF ∷ at 512 10 ∷ at 513 1 ∷ at 514 7 ∷ []

-- base 1: k 4, order 2, widths 1, with its mask
abbrev pub ports : List PlacedByte
ports =
    at 0x114 0xF0 ∷ at 0x115 0xFF ∷ at 0x116 0xFF ∷ at 0x117 0xFF
    ∷ at 516 4 ∷ at 517 2 ∷ at 518 1 ∷ []

-- memory at 80000000h, and bytes that differ from B1's; memory at 80000400h and I/O at 00000100h;
-- the trailer: 1,100 back, 2 records, edition 1, and the sum's two low bytes
abbrev pub b1_with : List PlacedByte → ℕ → ℕ → List ℕ
b1_with changes high low =
    record_bytes (changes ++ (at 0x13 0x80 ∷ both ++ memory))
    ++ record_bytes
    (at 0x11 0x04 ∷ at 0x13 0x80 ∷ at 0x14 0x01 ∷ at 0x15 0x01 ∷ both ++ (memory ++ ports))
    ++ (0 ∷ 0 ∷ 4 ∷ 0x4C ∷ 0 ∷ 2 ∷ 0 ∷ 1 ∷ 0 ∷ 0 ∷ high ∷ low ∷ [])

-- B1's, of sum 3,720
unfoldable pub b1 : List ℕ
b1 = b1_with [] 0x0E 0x88
