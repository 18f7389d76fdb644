-- Laws of the numbers of w bytes, for every w: their bound, what they depend on, their digits, and
-- what the digits of a value make; and some of powers of two.
use mathlib.Core.Path.{◌≡◌, refl, sym, ap, ◌∙◌}
use mathlib.Core.List.{List, ◌++◌}
use Prim.Native.Nat.{ℕ, zero, suc, ◌+◌, ◌-◌, ◌*◌, ◌/◌, ◌%◌, ◌<◌, ◌≤◌, ◌^◌}
use native.Mathlib.Omega.{arith}
use native.Mathlib.Numerals.{add-one}
use native.Mathlib.Nat.{add-zero, zero-add, pow-suc, pow-succ', div-one, div-div-eq-div-mul, one-le-pow, pow-le-pow_right, mod-eq_of_lt}
use lib.Dec.{lit<, lit≤}
use lib.Arith.{mod-mul}
use lib.Pow.{pow-add}
use lib.ListN.{length, get_or, take, drop, length-drop, get_or-append}
use lib.Seq.{length-take-le, get_or-append-add, get_or-take, get_or-drop, ext_get_or}
use borrow.Author.Tests.{lt-ltb}
use Rattle.numbers.specs.Numbers.{byte_at, little, big, big_bytes, reversed, power}
use Rattle.numbers.proofs.Tables.{table_length, table_get}

-- no bytes make 0
none : (f : ℕ → ℕ) (at : ℕ) → little 0 f at ≡ 0
unfolding little
none f at = refl

-- one position on, said two ways
next : (at i : ℕ) → at + 1 + i ≡ at + suc i
next at i = omega arith

-- a number of w bytes is below 256 ^ w
pub little_below : (w : ℕ) (f : ℕ → ℕ) (at : ℕ) → little w f at < 256 ^ w
unfolding little
little_below zero f at = lit< tt
little_below (suc w) f at = rw pow-suc (omega (arith, little_below w f (at + 1)))

-- a number depends on its w bytes alone, wherever they stand
pub little_same : (w : ℕ) (f g : ℕ → ℕ) (a b : ℕ) → ((i : ℕ) → i < w → f (a + i) % 256 ≡ g (b + i) % 256) → little w f a ≡ little w g b
unfolding little
little_same zero f g a b same = refl
little_same (suc w) f g a b same =
    let first : f a % 256 ≡ g b % 256 = rw (add-zero a, add-zero b) at (same 0 (omega arith)) in
    rw (first, little_same w f g (a + 1) (b + 1) (λ i h. rw (next a i, next b i) (same (suc i) (omega arith))))

-- the bytes from a position may be taken to stand at 0
pub little_from : (w : ℕ) (f : ℕ → ℕ) (at : ℕ) → little w f at ≡ little w (λ i. f (at + i)) 0
little_from w f at = little_same w f (λ i. f (at + i)) at 0 (λ i h. rw zero-add)

-- the least byte of a number, where it is below 256, is added as it is
pub little_plain : (w : ℕ) (f : ℕ → ℕ) (at : ℕ) → f at < 256 → little (suc w) f at ≡ f at + 256 * little w f (at + 1)
unfolding little
little_plain w f at h = omega arith

-- one byte more at the end is added above the others
pub little_last : (w : ℕ) (f : ℕ → ℕ) (at : ℕ) → little (suc w) f at ≡ little w f at + 256 ^ w * (f (at + w) % 256)
unfolding little
little_last zero f at = rw (add-zero at) (omega arith)
little_last (suc w) f at = rw (little_last w f (at + 1), next, pow-succ') (omega arith)

-- digit i of a number, the least first, is its byte i
pub little_digit : (w : ℕ) (f : ℕ → ℕ) (at i : ℕ) → i < w → little w f at / 256 ^ i % 256 ≡ f (at + i) % 256
unfolding little
little_digit zero f at i h = absurd (omega arith)
little_digit (suc w) f at zero h = rw (add-zero at) (omega arith)
little_digit (suc w) f at (suc i) h =
    let rest : (f at % 256 + 256 * little w f (at + 1)) / 256 ≡ little w f (at + 1) = omega arith in
    rw (pow-succ', ← div-div-eq-div-mul, rest, ← next at i) (little_digit w f (at + 1) i (omega arith))

-- a value without its i lowest digits, and then without one more
pub digit_less : (v i : ℕ) → v / 256 ^ i / 256 ≡ v / 256 ^ (i + 1)
digit_less v i = rw (add-one, pow-suc) (div-div-eq-div-mul v (256 ^ i) 256)

-- w digits of a value, from digit `at`, make the value's part there
pub little_part : (w v at : ℕ) → little w (λ i. v / 256 ^ i) at ≡ v / 256 ^ at % 256 ^ w
unfolding little
little_part zero v at = omega arith
little_part (suc w) v at =
    rw (little_part w v (at + 1), ← digit_less v at, pow-suc 256 w, mod-mul (v / 256 ^ at) (one-le-pow w 256 (lit< tt)) (lit< tt)) (omega arith)

-- the w lowest digits of a value make the value modulo 256 ^ w
pub little_of : (w v : ℕ) → little w (λ i. v / 256 ^ i) 0 ≡ v % 256 ^ w
little_of w v = little_part w v 0 ∙ rw div-one

-- the two byte orders are each other's reverse
pub big_reversed : (w : ℕ) (f : ℕ → ℕ) (at : ℕ) → big w f at ≡ little w (λ i. f (at + (w - suc i))) 0
unfolding big
big_reversed zero f at = sym (none _ 0)
big_reversed (suc w) f at =
    let low : little w (λ i. f (at + (suc w - suc i))) 0 ≡ big w f (at + 1) = little_same w _ _ 0 0 (λ i h. ap (λ j. f j % 256) (omega arith)) ∙ sym (big_reversed w f (at + 1)) in
    let top : at + (suc w - suc (0 + w)) ≡ at = omega arith in
    rw (little_last, low, top) (omega arith)

-- the bound holds highest byte first too
pub big_below : (w : ℕ) (f : ℕ → ℕ) (at : ℕ) → big w f at < 256 ^ w
big_below w f at = rw big_reversed (little_below w _ 0)

-- and that a number depends on its w bytes alone
pub big_same : (w : ℕ) (f g : ℕ → ℕ) (a b : ℕ) → ((i : ℕ) → i < w → f (a + i) % 256 ≡ g (b + i) % 256) → big w f a ≡ big w g b
big_same w f g a b same =
    big_reversed w f a ∙ little_same w _ _ 0 0 (λ i h. same (w - suc (0 + i)) (omega arith)) ∙ sym (big_reversed w g b)

-- digit i of a number, the least first, is its byte i from the end
pub big_digit : (w : ℕ) (f : ℕ → ℕ) (at i : ℕ) → i < w → big w f at / 256 ^ i % 256 ≡ f (at + (w - suc i)) % 256
big_digit w f at i h = rw big_reversed (rw zero-add at (little_digit w (λ j. f (at + (w - suc j))) 0 i h))

-- the w lowest digits of a value, highest first, make the value modulo 256 ^ w
pub big_of : (w v : ℕ) → big w (λ i. v / 256 ^ (w - suc i)) 0 ≡ v % 256 ^ w
big_of w v = big_reversed w _ 0 ∙ little_same w _ _ 0 0 (λ i h. ap (λ j. v / 256 ^ j % 256) (omega arith)) ∙ little_of w v

-- the bytes of a number least first, reversed, make the same bytes' number highest first
pub reversed_little : (w : ℕ) (f : ℕ → ℕ) (at : ℕ) → reversed w (little w f at) ≡ big w f at
unfolding reversed
reversed_little w f at = big_same w _ _ 0 at (λ i h. rw zero-add (little_digit w f at i h))

-- a reversed number has w bytes too
pub reversed_below : (w v : ℕ) → reversed w v < 256 ^ w
unfolding reversed
reversed_below w v = big_below w _ 0

-- digit i of a reversed number, the least first, is byte i of the number, the highest first
pub reversed_digit : (w v i : ℕ) → i < w → reversed w v / 256 ^ i % 256 ≡ get_or (big_bytes w v) i 0
unfolding reversed
reversed_digit w v i h =
    big_digit w (λ j. v / 256 ^ j) 0 i h ∙ rw (table_get 0 w (λ j. v / 256 ^ (w - suc j) % 256) i h, zero-add (w - suc i), zero-add i)

-- reversed twice, a number of w bytes is itself
pub reversed_back : (w v : ℕ) → reversed w (reversed w v) ≡ v % 256 ^ w
unfolding reversed
reversed_back w v =
    big_same w _ _ 0 0 (λ i h. rw (zero-add i) (big_digit w (λ j. v / 256 ^ j) 0 i h ∙ rw zero-add)) ∙ big_of w v

-- the bytes of a number highest first, reversed, make the same bytes' number least first
pub reversed_big : (w : ℕ) (f : ℕ → ℕ) (at : ℕ) → reversed w (big w f at) ≡ little w f at
reversed_big w f at = rw (← reversed_little w f at) (reversed_back w (little w f at) ∙ mod-eq_of_lt (little_below w f at))

-- the w bytes of a value, wherever they stand in a list, make the value modulo 256 ^ w
pub big_bytes_lem : (w v : ℕ) (before after : List ℕ) → big w (byte_at (before ++ (big_bytes w v ++ after))) (length before) ≡ v % 256 ^ w
big_bytes_lem w v before after =
    big_same w _ (λ i. v / 256 ^ (w - suc i)) (length before) 0
    (λ i h. let k : i < length (big_bytes w v) = rw table_length h in
    rw (get_or-append-add before (big_bytes w v ++ after) i 0, get_or-append (big_bytes w v) after 0 i k, table_get 0 w (λ j. v / 256 ^ (w - suc j) % 256) i h) (omega arith))
    ∙ big_of w v

-- the w bytes of the number that a list holds at a position are the list's bytes there
pub bytes_big : (w : ℕ) (l : List ℕ) (at : ℕ) → ((i : ℕ) → byte_at l i < 256) → at + w ≤ length l
    → big_bytes w (big w (byte_at l) at) ≡ take w (drop at l)
bytes_big w l at small h =
    let size : length (take w (drop at l)) ≡ w = length-take-le w (drop at l) (rw length-drop (omega arith)) in
    ext_get_or 0 (big_bytes w (big w (byte_at l) at)) (take w (drop at l)) (table_length 0 w _ ∙ sym size)
    (λ i k. let less : i < w = rw table_length at k in byte i less)
  where
    byte : (i : ℕ) → i < w → get_or (big_bytes w (big w (byte_at l) at)) i 0 ≡ get_or (take w (drop at l)) i 0
    byte i h =
        let e : at + (w - suc (w - suc (0 + i))) ≡ at + i = omega arith in
        table_get 0 w (λ j. big w (byte_at l) at / 256 ^ (w - suc j) % 256) i h
        ∙ big_digit w (byte_at l) at (w - suc (0 + i)) (omega arith)
        ∙ rw (e, get_or-take w (drop at l) i 0 h, get_or-drop at l i 0) (omega (arith, small (at + i)))

-- up to 16 the power is 2 ^ k, which is 65,536 at most
pub power_small : (k : ℕ) → k ≤ 16 → power k ≡ 2 ^ k
power_small k h = rw (lt-ltb k 32 (omega arith))

pub power_most : (k : ℕ) → k ≤ 16 → 2 ^ k ≤ 65536
power_most k h = pow-le-pow_right {n = 2} (lit≤ tt) h

-- a power of two from 4 on is a multiple of 4
pub power_fours : (k : ℕ) → 2 ≤ k → 2 ^ k ≡ 4 * 2 ^ (k - 2)
power_fours k h = let e : k ≡ 2 + (k - 2) = omega arith in ap (λ n. 2 ^ n) e ∙ pow-add 2 2 (k - 2)
