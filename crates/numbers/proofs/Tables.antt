-- Laws of tables, and of an array that is filled with one from its front.
use Prim.Native.Nat.{ℕ, zero, suc, ◌+◌, ◌<◌, ◌≤◌}
use native.Mathlib.Omega.{arith}
use native.Mathlib.Numerals.{add-one}
use mathlib.Core.Path.{◌≡◌, refl, sym, ◌∙◌, ap}
use mathlib.Core.List.{List, [], ◌∷◌, ◌++◌}
use lib.ListN.{length, get_or, take, set, replicate}
use lib.Seq.{take-suc-set, take_all}
use Rattle.numbers.specs.Tables.{table_from, table}

pub table_length : (i n : ℕ) (f : ℕ → ℕ) → length (table_from i n f) ≡ n
unfolding table_from
table_length i zero f = refl
table_length i (suc n) f = ap suc (table_length (suc i) n f)

pub table_get : (i n : ℕ) (f : ℕ → ℕ) (j : ℕ) → j < n → get_or (table_from i n f) j 0 ≡ f (i + j)
unfolding table_from
table_get i zero f j h = absurd (omega arith)
table_get i (suc n) f zero h = ap f (omega arith)
table_get i (suc n) f (suc j) h = table_get (suc i) n f j (omega arith) ∙ ap f (omega arith)

pub table_same : (a b n : ℕ) (f g : ℕ → ℕ) → ((j : ℕ) → j < n → f (a + j) ≡ g (b + j)) → table_from a n f ≡ table_from b n g
unfolding table_from
table_same a b zero f g e = refl
table_same a b (suc n) f g e =
    let first : f a ≡ g b = ap f (omega arith) ∙ e 0 (omega arith) ∙ ap g (omega arith) in
    let rest = table_same (suc a) (suc b) n f g (λ j h. ap f (omega arith) ∙ e (suc j) (omega arith) ∙ ap g (omega arith)) in
    rw (first, rest)

pub table_last : (i n : ℕ) (f : ℕ → ℕ) → table_from i (suc n) f ≡ table_from i n f ++ f (i + n) ∷ []
unfolding table_from
table_last i zero f = let e : i + 0 ≡ i = omega arith in rw e
table_last i (suc n) f =
    let e : i + suc n ≡ suc i + n = omega arith in
    rw e (ap (λ (l : List ℕ). f i ∷ l) (table_last (suc i) n f))

pub table_constant : (i n a : ℕ) → table_from i n (λ j. a) ≡ replicate n a
unfolding table_from
table_constant i zero a = refl
table_constant i (suc n) a = ap (λ (l : List ℕ). a ∷ l) (table_constant (suc i) n a)

-- the first j of an array hold the table, and the next is stored
pub filled_more : (f : ℕ → ℕ) (j v : ℕ) (l : List ℕ) → j < length l → v ≡ f j → take j l ≡ table j f
    → take (j + 1) (set l j v) ≡ table (j + 1) f
filled_more f j v l h e t =
    let z : 0 + j ≡ j = omega arith in
    rw (add-one j) (take-suc-set l j v h ∙ rw (t, e) (sym (table_last 0 j f ∙ ap (λ m. table j f ++ f m ∷ []) z)))

pub filled_all : (f : ℕ → ℕ) (j : ℕ) (l : List ℕ) → length l ≤ j → take j l ≡ table j f → l ≡ table j f
filled_all f j l h t = sym (take_all j l h) ∙ t
