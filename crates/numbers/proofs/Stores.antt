-- Runs of stores, and a turn of the loop that stores the bytes of a value, highest first, which are
-- the reversed value's digits, lowest first.
use Prim.Native.Nat.{ℕ, suc, ◌+◌, ◌/◌, ◌%◌, ◌^◌, ◌<◌, ◌≤◌}
use native.Mathlib.Nat.{add-zero}
use native.Mathlib.Numerals.{add-one}
use native.Mathlib.Omega.{arith}
use mathlib.Core.List.{List, [], ◌∷◌, ◌++◌}
use mathlib.Core.Logic.{◌⊎◌, inl, inr, ⊎_elim}
use mathlib.Core.Path.{◌≡◌, refl, ◌∙◌}
use lib.ListN.{length, get_or, set, drop, drop_of_length-le}
use lib.Seq.{sets, set_out, get_or-set_other, drop-cons}
use Rattle.numbers.specs.Numbers.{big_bytes, reversed}
use Rattle.numbers.proofs.Numbers.{reversed_digit}
use Rattle.numbers.proofs.Tables.{table_length}

-- from a position past the end on nothing is stored
pub sets_out : (l : List ℕ) (i : ℕ) (vs : List ℕ) → length l ≤ i → sets l i vs ≡ l
sets_out l i [] h = refl
sets_out l i (v ∷ vs) h = rw (set_out l i v h) (sets_out l (suc i) vs (omega arith))

-- a run of stores changes no position outside it
pub sets_other : (l : List ℕ) (i : ℕ) (vs : List ℕ) (j : ℕ) → (j < i) ⊎ (i + length vs ≤ j) → get_or (sets l i vs) j 0 ≡ get_or l j 0
sets_other l i [] j h = refl
sets_other l i (v ∷ vs) j h =
    sets_other (set l i v) (suc i) vs j (⊎_elim (λ a. inl (omega arith)) (λ b. inr (omega arith)) h)
    ∙ get_or-set_other l i j v 0 (⊎_elim (λ a e. omega arith) (λ b e. omega arith) h)

-- two runs, one after the other
pub sets_append : (l : List ℕ) (i : ℕ) (us vs : List ℕ) → sets (sets l i us) (i + length us) vs ≡ sets l i (us ++ vs)
sets_append l i [] vs = rw (add-zero i)
sets_append l i (u ∷ us) vs = let e : i + suc (length us) ≡ suc i + length us = omega arith in rw e (sets_append (set l i u) (suc i) us vs)

module _ (w value : ℕ) where
  -- before the first turn all bytes are to be stored, a turn stores one, and after the last none is left
  pub store_none : (at : ℕ) (cells : List ℕ) → sets cells (at + 0) (drop 0 (big_bytes w value)) ≡ sets cells at (big_bytes w value)
  store_none at cells = rw (add-zero at)

  pub store_more : (at i : ℕ) (cells : List ℕ) → i < w
      → sets cells (at + i) (drop i (big_bytes w value))
      ≡ sets (set cells (at + i) (reversed w value / 256 ^ i % 256)) (at + (i + 1)) (drop (i + 1) (big_bytes w value))
  store_more at i cells h =
      let next : at + (i + 1) ≡ suc (at + i) = omega arith in
      rw (next, add-one i, drop-cons (big_bytes w value) i 0 (rw table_length h), ← reversed_digit w value i h)

  pub store_end : (at i : ℕ) (cells : List ℕ) → w ≤ i → sets cells at (drop i (big_bytes w value)) ≡ cells
  store_end at i cells h = rw (drop_of_length-le (big_bytes w value) {i = i} (rw table_length h))
