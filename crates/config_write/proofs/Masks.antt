-- Which bits a write takes and which it clears, by register.
use Prim.Native.Nat.{ℕ}
use native.Mathlib.Omega.{arith}
use mathlib.Core.Bool.{Bool, true, false, cond, not, ◌&&◌, ◌||◌, or-true}
use mathlib.Core.Logic.{◌⊎◌, ⊎_elim}
use mathlib.Core.Path.{◌≡◌, refl}
use lib.Dec.{eqb}
use borrow.Author.Tests.{eq-eqb, ne_eqb}
use Rattle.numbers.specs.Numbers.{bit}
use Rattle.config_masked.proofs.Bits.{written_bits, no_bit}
use Rattle.config_write.specs.Write.{clear_mask}
use Rattle.config_write.specs.Meaning.{StatusBits, MaskedBits}

-- where the clear mask is the mask, the choice by the clear mask alone decides
same_choice : (m : Bool) (x y z : Bool) → cond m x (cond m y z) ≡ cond m x z
same_choice true x y z = refl
same_choice false x y z = refl

-- the clear mask of status is its mask
of_status_lem : (register mask : ℕ) → (register ≡ 0x06) ⊎ (register ≡ 0x07) → clear_mask register mask ≡ mask
of_status_lem register mask =
    ⊎_elim (λ e. rw (eq-eqb register 0x06 e)) (λ e. rw (eq-eqb register 0x07 e, or-true))

-- THEOREM: in status a masked bit stays set exactly if it was and 0 is written
pub status_bits : StatusBits
status_bits register mask old new b h hn k s =
    rw (of_status_lem register mask s, written_bits mask mask old new b h h hn k)
    (same_choice (bit b mask) (bit b old && not (bit b new)) (bit b new) (bit b old))

-- THEOREM: elsewhere the written bit where the mask has 1, else the one that stood there
pub masked_bits : MaskedBits
masked_bits register mask old new b h hn k low high =
    rw (
      ne_eqb register 0x06 low,
      ne_eqb register 0x07 high,
      written_bits mask 0 old new b h (omega arith) hn k,
      no_bit b,
    )

-- a register without a bit to write has no bit to clear
pub clear_of_none : (register : ℕ) → clear_mask register 0 ≡ 0
clear_of_none register = by (eqb register 0x06 || eqb register 0x07) 0
  where
    by : (s : Bool) (n : ℕ) → cond s n n ≡ n
    by true n = refl
    by false n = refl
