-- What the rule means, bit by bit: a statement alone, proved in proofs/Bits.antt.
use Rattle.std.specs.Prelude.{ℕ, ◌<◌, cond, not, ◌&&◌, ◌≡◌}
use Rattle.numbers.specs.Numbers.{bit}
use Rattle.config_masked.specs.Masked.{written}

-- where the clear mask has 1 a bit stays set exactly if it was and 0 is written; else the mask
-- chooses between the written bit and the old one
abbrev pub WrittenBits : Type 0
WrittenBits =
    (mask clear old new b : ℕ) → mask < 256 → clear < 256 → new < 256 → b < 8
    → bit b (written mask clear old new)
    ≡ cond (bit b clear)
    (bit b old && not (bit b new))
    (cond (bit b mask) (bit b new) (bit b old))
