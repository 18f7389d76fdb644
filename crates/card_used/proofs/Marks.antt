-- Laws of the used marks: the mark that is set, and no other, changes.
use Prim.Native.Nat.{ℕ, ◌+◌, ◌*◌, ◌/◌, ◌%◌, ◌<◌}
use native.Mathlib.Omega.{arith}
use native.Mathlib.Nat.{zero-add}
use mathlib.Core.Bool.{Bool, true, false, cond}
use mathlib.Core.List.{List}
use mathlib.Core.Path.{◌≡◌, refl, sym, ◌∙◌, ap}
use lib.Dec.{eqb}
use lib.ListN.{length, get_or, set, length-set}
use lib.Seq.{get_or-set_same, get_or-set_other, ext_get_or}
use borrow.Author.Tests.{eqb-true, eqb-false}
use Rattle.board.specs.Layout.{functions_max}
use Rattle.numbers.proofs.Tables.{table_length, table_get}
use Rattle.card_used.specs.declared.used.Mark.{Mark}
use Rattle.card_used.specs.Used.{mark_at, mark_put, mark_number, marks_of}
use Rattle.card_used.specs.Meaning.{OneMark}

module _ (used : List ℕ) (i : ℕ) (m : Mark) where
  put_same : 2 * i + 1 < length used → mark_at (mark_put used i m) i ≡ m
  put_same h =
      rw (
        get_or-set_other (set used (2 * i) m.status) (2 * i + 1) (2 * i) m.call_back 0 (λ z. omega arith),
        get_or-set_same used (2 * i) m.status 0 (omega arith),
        get_or-set_same (set used (2 * i) m.status) (2 * i + 1) m.call_back 0 (rw (length-set used (2 * i) m.status) h),
      )

  put_other : (j : ℕ) → (j ≡ i → ⊥) → mark_at (mark_put used i m) j ≡ mark_at used j
  put_other j n =
      rw (
        get_or-set_other (set used (2 * i) m.status) (2 * i + 1) (2 * j) m.call_back 0 (λ z. omega arith),
        get_or-set_other used (2 * i) (2 * j) m.status 0 (λ z. n (omega arith)),
        get_or-set_other (set used (2 * i) m.status) (2 * i + 1) (2 * j + 1) m.call_back 0 (λ z. n (omega arith)),
        get_or-set_other used (2 * i) (2 * j + 1) m.status 0 (λ z. omega arith),
      )

-- THEOREM: a mark that is set is its function's, and every other function keeps its own
pub one_mark : OneMark
one_mark used i j m h = by (eqb j i) refl
  where
    by : (b : Bool) → eqb j i ≡ b → mark_at (mark_put used i m) j ≡ cond b m (mark_at used j)
    by true e = rw (eqb-true j i e) (put_same used i m h)
    by false e = put_other used i m j (eqb-false j i e)

-- number j of an array is the number of its marks there
mark_here : (l : List ℕ) (j : ℕ) → mark_number (mark_at l) j ≡ get_or l j 0
mark_here l j = by (eqb (j % 2) 0) refl
  where
    by : (a : Bool) → eqb (j % 2) 0 ≡ a → cond a (get_or l (2 * (j / 2)) 0) (get_or l (2 * (j / 2) + 1) 0) ≡ get_or l j 0
    by true e = let z : j % 2 ≡ 0 = eqb-true (j % 2) 0 e in ap (λ k. get_or l k 0) (omega arith)
    by false e = let z : j % 2 ≡ 0 → ⊥ = eqb-false (j % 2) 0 e in ap (λ k. get_or l k 0) (omega arith)

-- an array that is made of marks has them
pub marks_at : (f : ℕ → Mark) (i : ℕ) → i < functions_max → mark_at (marks_of f) i ≡ f i
marks_at f i h =
    let q : (0 + 2 * i) / 2 ≡ i = omega arith in
    let q₁ : (0 + (2 * i + 1)) / 2 ≡ i = omega arith in
    let r : (0 + 2 * i) % 2 ≡ 0 = omega arith in
    let r₁ : (0 + (2 * i + 1)) % 2 ≡ 1 = omega arith in
    rw (table_get 0 32 (mark_number f) (2 * i) (omega arith), table_get 0 32 (mark_number f) (2 * i + 1) (omega arith), q, q₁, r, r₁)

-- and after one is set it is made of those marks with the new one
pub marks_put : (f : ℕ → Mark) (i : ℕ) (m : Mark) → i < functions_max → mark_put (marks_of f) i m ≡ marks_of (λ j. cond (eqb j i) m (f j))
marks_put f i m h =
    ext_get_or 0 (mark_put (marks_of f) i m) (marks_of g) (size ∙ sym (table_length 0 32 (mark_number g)))
    (λ j l. let k : j < 32 = rw size at l in number j k)
  where
    g : ℕ → Mark
    g j = cond (eqb j i) m (f j)

    size : length (mark_put (marks_of f) i m) ≡ 32
    size = length-set (set (marks_of f) (2 * i) m.status) (2 * i + 1) m.call_back ∙ length-set (marks_of f) (2 * i) m.status ∙ table_length 0 32 (mark_number f)

    number : (j : ℕ) → j < 32 → get_or (mark_put (marks_of f) i m) j 0 ≡ get_or (marks_of g) j 0
    number j k =
        let inside : 2 * i + 1 < length (marks_of f) = rw (table_length 0 32 (mark_number f)) (omega arith) in
        let same : mark_at (mark_put (marks_of f) i m) (j / 2) ≡ g (j / 2) =
        one_mark (marks_of f) i (j / 2) m inside ∙ ap (λ (x : Mark). cond (eqb (j / 2) i) m x) (marks_at f (j / 2) (omega arith)) in
        sym (mark_here (mark_put (marks_of f) i m) j)
        ∙ ap (λ (x : Mark). cond (eqb (j % 2) 0) x.status x.call_back) same
        ∙ sym (table_get 0 32 (mark_number g) j k ∙ ap (mark_number g) (zero-add j))
