-- Numbers of w bytes, least byte first (document 01, "Registers") and highest byte first ("Board
-- image"), once for every w. A byte f i is read modulo 256, so that the laws need no bound on it.
use Rattle.std.specs.Prelude.{ℕ, zero, suc, ◌+◌, ◌*◌, ◌-◌, ◌/◌, ◌%◌, ◌^◌, Bool, true, false, cond, List, eqb, ltb, ℤ, pos, negsuc, get_or}
use Rattle.numbers.specs.Tables.{table}
use Rattle.numbers.specs.declared.number.Width.{Width}
use Rattle.numbers.specs.declared.number.Width.TheVariants.{Byte, Word, Long}

-- the byte of a lent slice at a position, 0 past its end
abbrev pub byte_at : List ℕ → ℕ → ℕ
byte_at l i = get_or l i 0

-- the bytes of a width
abbrev pub bytes : Width → ℕ
bytes Byte = 1
bytes Word = 2
bytes Long = 4

-- a number is a multiple of w
abbrev pub is_multiple : ℕ → ℕ → Bool
is_multiple n w = eqb (n % w) 0

-- the number of the w bytes of f from a position, least byte first
unfoldable pub little : ℕ → (ℕ → ℕ) → ℕ → ℕ
little zero f at = 0
little (suc w) f at = f at % 256 + 256 * little w f (at + 1)

-- and highest byte first
unfoldable pub big : ℕ → (ℕ → ℕ) → ℕ → ℕ
big zero f at = 0
big (suc w) f at = 256 ^ w * (f at % 256) + big w f (at + 1)

-- the w bytes of a number, highest first
abbrev pub big_bytes : ℕ → ℕ → List ℕ
big_bytes w v = table w (λ i. v / 256 ^ (w - suc i) % 256)

-- a number with its w bytes in the other order: its least byte is the highest
unfoldable pub reversed : ℕ → ℕ → ℕ
reversed w v = big w (λ i. v / 256 ^ i) 0

-- 2 to the power k, and 0 for k past 31
abbrev pub power : ℕ → ℕ
power k = cond (ltb k 32) (2 ^ k) 0

-- bit b of a number
abbrev pub bit : ℕ → ℕ → Bool
bit b n = eqb (n / 2 ^ b % 2) 1

-- whether a signed number is 0
abbrev pub is_zero : ℤ → Bool
is_zero (pos zero) = true
is_zero (pos (suc n)) = false
is_zero (negsuc n) = false

-- a signed number in two's complement, of which the low 32 bits are taken
abbrev pub bits : ℤ → ℕ
bits (pos n) = n
bits (negsuc n) = 2 ^ 32 - suc (n % 2 ^ 32)
