-- The byte-order rule: document 01, "Data and byte order".
use Rattle.std.specs.Prelude.{ℕ, ◌-◌, cond, eqb}
use Rattle.std.specs.Int.Bits.{bit_xor}
use Rattle.numbers.specs.Numbers.{reversed}

-- where w cells stand for a distance o from the window's start: order 1 uses o XOR 3 for bytes,
-- o XOR 2 for words, o for longwords; every other order o
abbrev pub cell_distance : ℕ → ℕ → ℕ → ℕ
cell_distance order w o = cond (eqb order 1) (bit_xor o (4 - w)) o

-- a value of w bytes as the cells hold it, highest byte first, and back: order 2 reverses the bytes
abbrev pub ordered : ℕ → ℕ → ℕ → ℕ
ordered order w v = cond (eqb order 2) (reversed w v) v
