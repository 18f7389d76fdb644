-- A byte written through its masks, bit by bit.
use Prim.Native.Nat.{ℕ, zero, suc, ◌-◌, ◌^◌, ◌<◌, min, max}
use native.Mathlib.Nat.{zero-div, mod-eq_of_lt}
use native.Mathlib.Omega.{arith}
use mathlib.Core.Bool.{false, cond, not, ◌&&◌}
use mathlib.Core.Path.{◌≡◌, refl, ◌∙◌}
use lib.Bits.{bit_and, and_mask, and_zero_r}
use lib.Dec.{eqb}
use mir.Syntax.{w8}
use Rattle.std.specs.Int.{bit_at}
use Rattle.std.proofs.lemmas.Nat.Bits.{bit_at_and, bit_at_or, bit_at_not}
use Rattle.numbers.specs.Numbers.{bit}
use Rattle.config_masked.specs.Masked.{merged, written}
use Rattle.config_masked.specs.Meaning.{WrittenBits}

-- a digit m of the mask chooses between the digits f and s
merged_digit : (m f s : ℕ) → m < 2 → f < 2 → s < 2
    → eqb (max (min f m) (min s (1 - m))) 1 ≡ cond (eqb m 1) (eqb f 1) (eqb s 1)
merged_digit zero f s hm hf hs = let e : max (min f 0) (min s 1) ≡ s = omega arith in rw e
merged_digit (suc zero) f s hm hf hs = let e : max (min f 1) (min s 0) ≡ f = omega arith in rw e
merged_digit (suc (suc m)) f s hm hf hs = absurd (omega arith)

-- a mask chooses between two bytes bit by bit
merged_bit : (mask first second b : ℕ) → mask < 256 → b < 8
    → bit b (merged mask first second) ≡ cond (bit b mask) (bit b first) (bit b second)
merged_bit mask first second b h k =
    rw (
      bit_at_or (bit_and first mask) (bit_and second (255 - mask)) b,
      bit_at_and first mask b,
      bit_at_and second (255 - mask) b,
      bit_at_not w8 mask b h k,
    )
    (merged_digit (bit_at mask b) (bit_at first b) (bit_at second b)
    (omega arith) (omega arith) (omega arith))

-- an old digit o AND NOT a written digit n
cleared_digit : (o n : ℕ) → o < 2 → n < 2 → eqb (min o (1 - n)) 1 ≡ (eqb o 1 && not (eqb n 1))
cleared_digit zero n ho hn = let e : min 0 (1 - n) ≡ 0 = omega arith in rw e
cleared_digit (suc zero) zero ho hn = refl
cleared_digit (suc zero) (suc zero) ho hn = refl
cleared_digit (suc zero) (suc (suc n)) ho hn = absurd (omega arith)
cleared_digit (suc (suc o)) n ho hn = absurd (omega arith)

cleared_bit : (old new b : ℕ) → new < 256 → b < 8
    → bit b (bit_and old (255 - new)) ≡ (bit b old && not (bit b new))
cleared_bit old new b h k =
    rw (bit_at_and old (255 - new) b, bit_at_not w8 new b h k)
    (cleared_digit (bit_at old b) (bit_at new b) (omega arith) (omega arith))

-- THEOREM: the clear mask, then the mask, decides on each bit
pub written_bits : WrittenBits
written_bits mask clear old new b hm hc hn k =
    rw (
      merged_bit clear (bit_and old (255 - new)) (merged mask new old) b hc k,
      cleared_bit old new b hn k,
      merged_bit mask new old b hm k,
    )

-- no bit is set in 0
pub no_bit : (b : ℕ) → bit b 0 ≡ false
no_bit b = rw (zero-div (2 ^ b))

-- a mask without a bit chooses the second byte
none_merged : (first second : ℕ) → second < 256 → merged 0 first second ≡ second
none_merged first second h = rw (and_zero_r first) (and_mask second 8 ∙ mod-eq_of_lt h)

-- a byte that neither mask lets change is kept
pub kept_byte : (old new : ℕ) → old < 256 → written 0 0 old new ≡ old
kept_byte old new h = rw (none_merged new old h) (none_merged (bit_and old (255 - new)) old h)
