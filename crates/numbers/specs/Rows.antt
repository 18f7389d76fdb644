-- Rows with literal numbers of document 01: the widths and byte orders of "Registers", "Board
-- image" and "Data and byte order", powers of two and bits, the 32 bits of a number handed back.
use Rattle.std.specs.Prelude.{ℕ, ◌+◌, true, false, List, [], ◌∷◌, map, ◌≡◌, pos, neg_ℤ}
use Rattle.numbers.specs.Numbers.{
  byte_at,
  bytes,
  is_multiple,
  little,
  big,
  big_bytes,
  reversed,
  power,
  bit,
  is_zero,
  bits,
}
use Rattle.numbers.specs.Tables.{table, filled_up}
use Rattle.numbers.specs.declared.number.Width.TheVariants.{Byte, Word, Long}

-- 12h 34h 56h 78h from position 1, with another byte on either side
abbrev four_bytes : List ℕ
four_bytes = 0xEE ∷ 0x12 ∷ 0x34 ∷ 0x56 ∷ 0x78 ∷ 0xEE ∷ []

pub record NumbersRows : Type 0 where
  -- 1, 2 or 4 bytes
  pub widths : map bytes (Byte ∷ Word ∷ Long ∷ []) ≡ 1 ∷ 2 ∷ 4 ∷ []
  -- least byte first
  pub little_endian : map (λ w. little w (byte_at four_bytes) 1) (1 ∷ 2 ∷ 4 ∷ [])
      ≡ 0x12 ∷ 0x3412 ∷ 0x78563412 ∷ []
  -- highest byte first
  pub big_endian : map (λ w. big w (byte_at four_bytes) 1) (1 ∷ 2 ∷ 4 ∷ [])
      ≡ 0x12 ∷ 0x1234 ∷ 0x12345678 ∷ []
  pub big_endian_bytes : map (λ w. big_bytes w 0x12345678) (1 ∷ 2 ∷ 4 ∷ [])
      ≡ (0x78 ∷ []) ∷ (0x56 ∷ 0x78 ∷ []) ∷ (0x12 ∷ 0x34 ∷ 0x56 ∷ 0x78 ∷ []) ∷ []
  -- the bytes reversed: one byte stays, of a number the bytes of the width alone
  pub reversed_bytes : map (λ w. reversed w 0x12345678) (1 ∷ 2 ∷ 4 ∷ [])
      ≡ 0x78 ∷ 0x7856 ∷ 0x78563412 ∷ []
  -- past the end a byte is 0
  pub past_the_end : map (byte_at four_bytes) (4 ∷ 5 ∷ 6 ∷ []) ≡ 0x78 ∷ 0xEE ∷ 0 ∷ []
  pub long_past_the_end : map (λ w. little w (byte_at four_bytes) 4) (1 ∷ 2 ∷ 4 ∷ [])
      ≡ 0x78 ∷ 0xEE78 ∷ 0xEE78 ∷ []
  -- a byte is read modulo 256
  pub byte_only : map (λ b. little 1 (λ i. b) 0) (0xFF ∷ 0x100 ∷ 0x1FE ∷ []) ≡ 0xFF ∷ 0 ∷ 0xFE ∷ []
  pub big_byte_only : map (λ b. big 1 (λ i. b) 0) (0xFF ∷ 0x100 ∷ 0x1FE ∷ []) ≡ 0xFF ∷ 0 ∷ 0xFE ∷ []
  -- even, and a multiple of 4
  pub multiples_of1 : map (λ n. is_multiple n 1) (0 ∷ 1 ∷ 2 ∷ 3 ∷ []) ≡ true ∷ true ∷ true ∷ true ∷ []
  pub multiples_of2 : map (λ n. is_multiple n 2) (0 ∷ 1 ∷ 2 ∷ 3 ∷ 4 ∷ [])
      ≡ true ∷ false ∷ true ∷ false ∷ true ∷ []
  pub multiples_of4 : map (λ n. is_multiple n 4) (0 ∷ 1 ∷ 2 ∷ 3 ∷ 4 ∷ 6 ∷ [])
      ≡ true ∷ false ∷ false ∷ false ∷ true ∷ false ∷ []
  -- 2^k; none past 31
  pub powers : map power (0 ∷ 1 ∷ 10 ∷ 16 ∷ 31 ∷ 32 ∷ [])
      ≡ 1 ∷ 2 ∷ 1024 ∷ 65536 ∷ 2147483648 ∷ 0 ∷ []
  -- bit 0 is the least
  pub bits_of12 : map (λ b. bit b 12) (0 ∷ 1 ∷ 2 ∷ 3 ∷ 4 ∷ [])
      ≡ false ∷ false ∷ true ∷ true ∷ false ∷ []
  -- a number handed back: whether it is 0, and its 32 bits in two's complement
  pub zero_only : map is_zero (pos 0 ∷ pos 1 ∷ neg_ℤ (pos 1) ∷ []) ≡ true ∷ false ∷ false ∷ []
  pub signed_bits : map bits (pos 0 ∷ pos 16 ∷ neg_ℤ (pos 1) ∷ neg_ℤ (pos 9) ∷ [])
      ≡ 0 ∷ 16 ∷ 0xFFFFFFFF ∷ 0xFFFFFFF7 ∷ []
  -- a list of a function's values from 0, and zeros up to a length
  pub tabled : table 3 (λ i. i + 7) ≡ 7 ∷ 8 ∷ 9 ∷ []
  pub filled : filled_up 4 (7 ∷ []) ≡ 7 ∷ 0 ∷ 0 ∷ 0 ∷ []
