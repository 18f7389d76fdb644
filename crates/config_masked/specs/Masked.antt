-- A register byte written through its mask and its clear mask: document 01, "Registers", and
-- document 02, E2 and E4. All are below 256, so 255 - n is byte n with each bit turned round.
use Rattle.std.specs.Prelude.{ℕ, ◌-◌}
use Rattle.std.specs.Int.Bits.{bit_and, bit_or}

-- the bits of the first byte where the mask has 1, those of the second elsewhere
abbrev pub merged : ℕ → ℕ → ℕ → ℕ
merged mask first second = bit_or (bit_and first mask) (bit_and second (255 - mask))

-- the byte after a write: where the clear mask has 1, old AND NOT written; elsewhere the written
-- bits where the mask has 1, and the rest kept
abbrev pub written : ℕ → ℕ → ℕ → ℕ → ℕ
written mask clear old new = merged clear (bit_and old (255 - new)) (merged mask new old)
