-- The last and the first position at which a test holds.
use Prim.Native.Nat.{ℕ, zero, suc, ◌+◌, ◌-◌, ◌<◌, ◌≤◌}
use native.Mathlib.Omega.{arith}
use mathlib.Core.Bool.{Bool, true, false, cond, true≢false}
use mathlib.Core.Path.{◌≡◌, refl, sym, ◌∙◌, ap}
use lib.Dec.{ltb, eqb}
use borrow.Author.Tests.{ltb-true, ltb-false, lt-ltb, le-ltb, eqb-true, eqb-false}
use Rattle.std.specs.Prelude.{Option, Some, None}
use Rattle.std.specs.Option.{MatchOption}
use Rattle.interrupt_hook.specs.Chain.{past_last, first_from}

module _ (t : ℕ → Bool) where
  -- a turn of the walk down, at the last of n positions
  pub past_here : (n : ℕ) → 0 < n → t (n - 1) ≡ true → past_last t n ≡ n
  unfolding past_last
  past_here zero h e = absurd (omega arith)
  past_here (suc n) h e = let k : suc n - 1 ≡ n = omega arith in rw (rw k at e)

  pub past_on : (n : ℕ) → 0 < n → t (n - 1) ≡ false → past_last t n ≡ past_last t (n - 1)
  unfolding past_last
  past_on zero h e = absurd (omega arith)
  past_on (suc n) h e = let k : suc n - 1 ≡ n = omega arith in rw (k, rw k at e)

  -- p is one past the last of n positions at which the test holds
  pub record Last (n p : ℕ) : Type 0 where
    pub room : p ≤ n
    pub here : 0 < p → t (p - 1) ≡ true
    pub after : (j : ℕ) → p ≤ j → j < n → t j ≡ false

  pub past_last_lem : (n : ℕ) → Last n (past_last t n)
  unfolding past_last
  past_last_lem zero = record { room = omega arith; here = λ h. absurd (omega arith); after = λ j l h. absurd (omega arith) }
  past_last_lem (suc n) = by (t n) refl (past_last_lem n)
    where
      or_last : t n ≡ false → Last n (past_last t n) → (j : ℕ) → past_last t n ≤ j → j < suc n → (b : Bool) → ltb j n ≡ b → t j ≡ false
      or_last e i j l h true k = i.after j l (ltb-true j n k)
      or_last e i j l h false k = ap t (omega (arith, ltb-false j n k)) ∙ e

      by : (b : Bool) → t n ≡ b → Last n (past_last t n) → Last (suc n) (cond b (suc n) (past_last t n))
      by true e i =
          record {
            room = omega arith;
            here = λ h. let k : suc n - 1 ≡ n = omega arith in rw k e;
            after = λ j l h. absurd (omega arith);
          }
      by false e i =
          record { room = omega (arith, i.room); here = i.here; after = λ j l h. or_last e i j l h (ltb j n) refl }

  -- there is one such position
  pub past_is : (n k : ℕ) → Last n k → past_last t n ≡ k
  past_is n k l =
      let m = past_last_lem n in
      let low : past_last t n < k → ⊥ = λ h. true≢false (sym (l.here (omega arith)) ∙ m.after (k - 1) (omega arith) (omega (arith, l.room))) in
      let high : k < past_last t n → ⊥ = λ h. true≢false (sym (m.here (omega arith)) ∙ l.after (past_last t n - 1) (omega arith) (omega (arith, m.room))) in
      omega arith

  -- p is the first of n positions from i on at which the test holds, or the position after them
  pub record First (i n p : ℕ) : Type 0 where
    pub low : i ≤ p
    pub high : p ≤ i + n
    pub here : p < i + n → t p ≡ true
    pub before : (j : ℕ) → i ≤ j → j < p → t j ≡ false

  pub first_from_lem : (i n : ℕ) → First i n (first_from t i n)
  unfolding first_from
  first_from_lem i zero = record { low = omega arith; high = omega arith; here = λ h. absurd (omega arith); before = λ j l h. absurd (omega arith) }
  first_from_lem i (suc n) = by (t i) refl (first_from_lem (i + 1) n)
    where
      or_first : t i ≡ false → First (i + 1) n (first_from t (i + 1) n) → (j : ℕ) → i ≤ j → j < first_from t (i + 1) n → (b : Bool) → eqb j i ≡ b → t j ≡ false
      or_first e f j l h true k = ap t (eqb-true j i k) ∙ e
      or_first e f j l h false k = let d : j ≡ i → ⊥ = eqb-false j i k in f.before j (omega arith) h

      by : (b : Bool) → t i ≡ b → First (i + 1) n (first_from t (i + 1) n) → First i (suc n) (cond b i (first_from t (i + 1) n))
      by true e f = record { low = omega arith; high = omega arith; here = λ h. e; before = λ j l h. absurd (omega arith) }
      by false e f =
          record {
            low = omega (arith, f.low);
            high = omega (arith, f.high);
            here = λ h. f.here (omega arith);
            before = λ j l h. or_first e f j l h (eqb j i) refl;
          }

  -- there is one such position
  pub first_is : (i n k : ℕ) → First i n k → first_from t i n ≡ k
  first_is i n k f =
      let g = first_from_lem i n in
      let low : first_from t i n < k → ⊥ = λ h. true≢false (sym (g.here (omega (arith, f.high))) ∙ f.before (first_from t i n) g.low h) in
      let high : k < first_from t i n → ⊥ = λ h. true≢false (sym (f.here (omega (arith, g.high))) ∙ g.before k f.low h) in
      omega arith

  -- what `find` says of a range from 0 on is that the first such position is found
  pub find_first : (n : ℕ) (r : Option ℕ)
      → MatchOption r ((k : ℕ) → 0 ≤ k → k < n → t k ≡ false) (λ i. (0 ≤ i) × (i < n) × (t i ≡ true) × ((k : ℕ) → 0 ≤ k → k < i → t k ≡ false))
      → r ≡ cond (ltb (first_from t 0 n) n) (Some (first_from t 0 n)) None
  find_first n None m =
      let e : first_from t 0 n ≡ n = first_is 0 n n (record { low = omega arith; high = omega arith; here = λ h. absurd (omega arith); before = λ j l h. m j l h }) in
      rw (e, le-ltb n n (omega arith))
  find_first n (Some i) m =
      let e : first_from t 0 n ≡ i = first_is 0 n i (record { low = omega arith; high = omega (arith, m.1); here = λ h. m.2; before = λ j l h. m.3 j l h }) in
      rw (e, lt-ltb i n m.1)
