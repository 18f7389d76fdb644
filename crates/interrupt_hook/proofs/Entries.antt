-- Laws of the hook array: its entries, entries one after the other, and those that pass a test.
use Prim.Native.Nat.{ℕ, zero, suc, ◌+◌, ◌*◌, ◌/◌, ◌%◌, ◌<◌}
use native.Mathlib.Omega.{arith}
use native.Mathlib.Nat.{add-zero, zero-add}
use mathlib.Core.Bool.{Bool, true, false, cond}
use mathlib.Core.List.{List, [], ◌∷◌, ◌++◌, append-nil}
use mathlib.Core.Path.{◌≡◌, refl, ◌∙◌, ap}
use Rattle.board.specs.Layout.{functions_max}
use Rattle.numbers.proofs.Tables.{table_get}
use Rattle.interrupt_array.specs.declared.hooks.Hook.{Hook}
use Rattle.interrupt_array.specs.Hooks.{hook_at, hooks_from, array_number, array_of, chosen}

-- an array that is made of entries has them
pub array_at : (f : ℕ → Hook) (e : ℕ) → e < functions_max → hook_at (array_of f) e ≡ f e
array_at f e h =
    let q : (0 + 3 * e) / 3 ≡ e = omega arith in
    let q₁ : (0 + (3 * e + 1)) / 3 ≡ e = omega arith in
    let q₂ : (0 + (3 * e + 2)) / 3 ≡ e = omega arith in
    let r : (0 + 3 * e) % 3 ≡ 0 = omega arith in
    let r₁ : (0 + (3 * e + 1)) % 3 ≡ 1 = omega arith in
    let r₂ : (0 + (3 * e + 2)) % 3 ≡ 2 = omega arith in
    rw (
      table_get 0 48 (array_number f) (3 * e) (omega arith),
      table_get 0 48 (array_number f) (3 * e + 1) (omega arith),
      table_get 0 48 (array_number f) (3 * e + 2) (omega arith),
      q,
      q₁,
      q₂,
      r,
      r₁,
      r₂,
    )

-- n entries, wherever they stand
pub entries_same : (i k n : ℕ) (f g : ℕ → Hook) → ((j : ℕ) → j < n → f (i + j) ≡ g (k + j)) → hooks_from i n f ≡ hooks_from k n g
unfolding hooks_from
entries_same i k zero f g e = refl
entries_same i k (suc n) f g e =
    let first : f i ≡ g k = rw (add-zero i, add-zero k) at (e 0 (omega arith)) in
    let rest = entries_same (i + 1) (k + 1) n f g (λ j h. ap f (omega arith) ∙ e (suc j) (omega arith) ∙ ap g (omega arith)) in
    rw (first, rest)

pub entries_split : (i n m : ℕ) (f : ℕ → Hook) → hooks_from i (n + m) f ≡ hooks_from i n f ++ hooks_from (i + n) m f
unfolding hooks_from
entries_split i zero m f = rw (add-zero i, zero-add m)
entries_split i (suc n) m f =
    let e : suc n + m ≡ suc (n + m) = omega arith in
    let k : i + suc n ≡ i + 1 + n = omega arith in
    rw (e, k) (ap (λ (l : List Hook). f i ∷ l) (entries_split (i + 1) n m f))

pub chosen_append : (t : Hook → Bool) (a b : List Hook) → chosen t (a ++ b) ≡ chosen t a ++ chosen t b
unfolding chosen
chosen_append t [] b = refl
chosen_append t (h ∷ a) b = by (t h) (chosen_append t a b)
  where
    by : (p : Bool) → chosen t (a ++ b) ≡ chosen t a ++ chosen t b
        → cond p (h ∷ chosen t (a ++ b)) (chosen t (a ++ b)) ≡ cond p (h ∷ chosen t a) (chosen t a) ++ chosen t b
    by true e = ap (λ (l : List Hook). h ∷ l) e
    by false e = e

pub chosen_none : (t : Hook → Bool) (i n : ℕ) (f : ℕ → Hook) → ((j : ℕ) → j < n → t (f (i + j)) ≡ false) → chosen t (hooks_from i n f) ≡ []
unfolding chosen hooks_from
chosen_none t i zero f e = refl
chosen_none t i (suc n) f e =
    let first : t (f i) ≡ false = rw (add-zero i) at (e 0 (omega arith)) in
    rw first (chosen_none t (i + 1) n f (λ j h. ap (λ k. t (f k)) (omega arith) ∙ e (suc j) (omega arith)))

pub chosen_in : (t : Hook → Bool) (h : Hook) (l : List Hook) → t h ≡ true → chosen t (h ∷ l) ≡ h ∷ chosen t l
unfolding chosen
chosen_in t h l e = rw e

pub chosen_out : (t : Hook → Bool) (h : Hook) (l : List Hook) → t h ≡ false → chosen t (h ∷ l) ≡ chosen t l
unfolding chosen
chosen_out t h l e = rw e

pub chosen_last_out : (t : Hook → Bool) (l : List Hook) (h : Hook) → t h ≡ false → chosen t (l ++ h ∷ []) ≡ chosen t l
unfolding chosen
chosen_last_out t l h e = chosen_append t l (h ∷ []) ∙ rw e (append-nil (chosen t l))
