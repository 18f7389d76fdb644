-- Laws of tests joined by `and` and `or`, and of two tests that agree.
use Prim.Native.Nat.{ℕ, ◌≤◌}
use native.Mathlib.Omega.{arith}
use mathlib.Core.Bool.{Bool, true, false, ◌&&◌, ◌||◌, or_comm, or_assoc, false≢true}
use mathlib.Core.Path.{◌≡◌, refl, ap, sym, ◌∙◌}
use lib.Dec.{leb}
use borrow.Author.Tests.{leb-true, leb-false, le-leb}

-- of two tests that hold together, each holds
pub both_true : (p q : Bool) → (p && q) ≡ true → (p ≡ true) × (q ≡ true)
both_true true q e = (refl, e)
both_true false true e = (e, refl)
both_true false false e = (e, e)

-- the first two of three may change places
pub or_swap : (p q r : Bool) → (p || (q || r)) ≡ (q || (p || r))
or_swap p q r = sym (or_assoc p q r) ∙ ap (λ (t : Bool). t || r) (or_comm p q) ∙ or_assoc q p r

-- of two tests of which neither holds, each does not
pub either_false : (p q : Bool) → (p || q) ≡ false → (p ≡ false) × (q ≡ false)
either_false true q e = (e, absurd (false≢true (sym e)))
either_false false q e = (refl, e)

-- a test that two bounds agree on; `ltb a b` is `leb (suc a) b`
pub leb_same : (a b c d : ℕ) → (a ≤ b → c ≤ d) → (c ≤ d → a ≤ b) → leb a b ≡ leb c d
leb_same a b c d f g = by (leb a b) refl
  where
    by : (p : Bool) → leb a b ≡ p → p ≡ leb c d
    by true e = sym (le-leb c d (f (leb-true a b e)))
    by false e = by' (leb c d) refl
      where
        by' : (q : Bool) → leb c d ≡ q → false ≡ q
        by' true k =
            let h = g (leb-true c d k) in
            let z : ⊥ = omega (arith, leb-false a b e) in
            absurd z
        by' false k = refl
