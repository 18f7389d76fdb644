-- `value_at`: by the width, and read least byte first where it is to be reversed.
use Rattle.std.proofs.Common.{ℕ, Bool, true, false, cond, ◌≡◌, refl, sym, ◌∙◌, arith, eqb, eq-eqb}
use Rattle.numbers.specs.Numbers.{little, big}
use Rattle.numbers.proofs.Numbers.{reversed_big}
use Rattle.data_access.proofs.stored.value_at.Goals as goal

-- one byte has one order
one_order : (f : ℕ → ℕ) (at : ℕ) → little 1 f at ≡ big 1 f at
unfolding little big
one_order f at = omega arith

-- both arms give the same
either : (b : Bool) (x y : ℕ) → x ≡ y → y ≡ cond b x y
either true x y e = sym e
either false x y e = refl

pub returns-in-Word : goal.returns-in-Word
returns-in-Word c =
    rw (c.in-Word.is, eq-eqb _ _ c.if-is_reversed.true, reversed_big) c.little_word_at.ensures

pub returns-in-Long : goal.returns-in-Long
returns-in-Long c =
    rw (c.in-Long.is, eq-eqb _ _ c.if-is_reversed-2.true, reversed_big) c.little_long_at.ensures

pub returns-in-Byte : goal.returns-in-Byte
returns-in-Byte c =
    rw c.in-Byte.is (c.one_at.ensures ∙ either (eqb c.args.target.order 2) _ _ (reversed_big 1 _ _ ∙ one_order _ _))
