-- The cells of an access stay inside its window.
use Prim.Native.Nat.{ℕ, ◌-◌, ◌%◌, ◌^◌, ◌<◌, ◌≤◌}
use native.Mathlib.Omega.{arith}
use mathlib.Core.Bool.{Bool, true, false, cond}
use mathlib.Core.Path.{◌≡◌, refl}
use lib.Bits.{bit_xor, xor_lt, xor_mod}
use lib.Dec.{eqb}
use lib.Pow.{pow_mono}
use Rattle.numbers.specs.declared.number.Width.TheVariants.{Byte, Word, Long}
use Rattle.numbers.proofs.Numbers.{power_fours}
use Rattle.data_order.specs.Orders.{cell_distance}
use Rattle.data_order.specs.Meaning.{InsideWindow}

-- a distance below 2 ^ k, where k is 2 or more, is placed below it
placed_below : (order w k o : ℕ) → 0 < w → 2 ≤ k → o < 2 ^ k → cell_distance order w o < 2 ^ k
placed_below order w k o p s h = by (eqb order 1)
  where
    by : (b : Bool) → cond b (bit_xor o (4 - w)) o < 2 ^ k
    by true = xor_lt k o (4 - w) h (omega (arith, pow_mono s))
    by false = h

-- and an aligned one aligned
placed_aligned : (order e o : ℕ) → (4 - 2 ^ e) % 2 ^ e ≡ 0 → o % 2 ^ e ≡ 0 → cell_distance order (2 ^ e) o % 2 ^ e ≡ 0
placed_aligned order e o a h = by (eqb order 1)
  where
    by : (b : Bool) → cond b (bit_xor o (4 - 2 ^ e)) o % 2 ^ e ≡ 0
    by true = rw (xor_mod o (4 - 2 ^ e) e, a, h)
    by false = h

-- THEOREM: in every order the cells of an aligned access stay inside its window, which has whole longwords
pub inside_window : InsideWindow
inside_window order Byte k o s h a = omega (arith, placed_below order 1 k o (omega arith) s h)
inside_window order Word k o s h a =
    omega (arith, placed_below order 2 k o (omega arith) s h, placed_aligned order 1 o refl a, power_fours k s)
inside_window order Long k o s h a =
    omega (arith, placed_below order 4 k o (omega arith) s h, placed_aligned order 2 o refl a, power_fours k s)
