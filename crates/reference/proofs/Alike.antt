-- For claim 3: lists that are alike but for what a call may touch.
use Prim.Native.Nat.{ℕ, zero, suc, ◌+◌, ◌-◌, ◌<◌, ◌≤◌}
use native.Mathlib.Omega.{arith}
use native.Mathlib.Nat.{zero-add, add-zero}
use mathlib.Core.Bool.{Bool, true, false, ◌&&◌, false≢true}
use mathlib.Core.Logic.{◌⊎◌, inl, inr}
use mathlib.Core.Path.{◌≡◌, refl, sym, ◌∙◌, ap}
use mathlib.Core.List.{List, ◌++◌}
use lib.Dec.{eqb, leb, ltb}
use lib.ListN.{length, get_or, drop, length-append, length-drop}
use lib.Seq.{get_or-append-add, get_or-drop}
use borrow.Author.Tests.{ltb-false, leb-false}
use Rattle.board.specs.Handles.{header_of}
use Rattle.numbers.specs.Tables.{table_from, table}
use Rattle.numbers.proofs.Tables.{table_length}
use Rattle.data_cells.specs.Cells.{cells_after}
use Rattle.std.specs.Prelude.{Ok}
use Rattle.data_cells.proofs.Cells.{only_its_cells}
use Rattle.cell_layout.specs.Cells.{zeroed}
use Rattle.reset.proofs.Zeroed.{zeroed_length, zeroed_past}
use Rattle.reference.specs.Claims.{accessed, EqualOutside}
use Rattle.reference.proofs.Tests.{if_either}

pub alike : (t : ℕ → Bool) (l : List ℕ) → EqualOutside t l l
alike t l = record { room = refl; same = λ i e. refl }

pub touched : {A : Type 0} → true ≡ false → A
touched e = absurd (false≢true (sym e))

-- headers differ in their counts alone
pub header_alike : (m n : ℕ) → EqualOutside (λ i. eqb i 0) (header_of m) (header_of n)
header_alike m n = record { room = refl; same = past }
  where
    past : (i : ℕ) → eqb i 0 ≡ false → get_or (header_of m) i 0 ≡ get_or (header_of n) i 0
    past zero e = touched e
    past (suc i) e = refl

-- cells past those that are zeroed
pub zeroed_alike : (n : ℕ) (cells : List ℕ) → n ≤ length cells → EqualOutside (λ i. ltb i n) (zeroed n cells) cells
zeroed_alike n cells h = record { room = zeroed_length n cells h; same = λ i e. zeroed_past n cells i (ltb-false i n e) }

-- two tables of a length, whose functions agree where no touch is allowed
pub table_alike : (t : ℕ → Bool) (n : ℕ) (f g : ℕ → ℕ) → ((j : ℕ) → t j ≡ false → f j ≡ g j) → EqualOutside t (table n f) (table n g)
unfolding table_from
table_alike t n f g e =
    record { room = table_length 0 n f ∙ sym (table_length 0 n g); same = λ j u. agree 0 n j (rw (zero-add j) (e j u)) }
  where
    agree : (i m j : ℕ) → f (i + j) ≡ g (i + j) → get_or (table_from i m f) j 0 ≡ get_or (table_from i m g) j 0
    agree i zero j d = refl
    agree i (suc m) zero d = rw (add-zero i) at d
    agree i (suc m) (suc j) d = let k : suc i + j ≡ i + suc j = omega arith in agree (suc i) m j (rw k d)

-- an image put to the front of an own buffer
pub front_alike : (n : ℕ) (image own : List ℕ) → length image ≡ n → n ≤ length own → EqualOutside (λ i. ltb i n) (image ++ drop n own) own
front_alike n image own e h =
    record {
      room = length-append image (drop n own) ∙ rw (e, length-drop n own) (omega arith);
      same = λ i t. past i (ltb-false i n t);
    }
  where
    past : (i : ℕ) → n ≤ i → get_or (image ++ drop n own) i 0 ≡ get_or own i 0
    past i l =
        let a : i ≡ length image + (i - n) = omega (arith, e) in
        let c : n + (i - n) ≡ i = omega arith in
        ap (λ j. get_or (image ++ drop n own) j 0) a ∙ get_or-append-add image (drop n own) (i - n) 0 ∙ get_or-drop n own (i - n) 0
        ∙ ap (λ j. get_or own j 0) c

-- a cell that is not one of the w cells of an access stands before or after them
outside : (at w j : ℕ) → (leb at j && ltb j (at + w)) ≡ false → (j < at) ⊎ (at + w ≤ j)
outside at w j h =
    if_either (leb at j) (λ e. inr (ltb-false j (at + w) (rw e at h))) (λ e. inl (leb-false at j e))

pub written_alike : (order w at value : ℕ) (cells : List ℕ) → EqualOutside (accessed w (Ok (record { at = at; order = order }))) (cells_after order w at value cells) cells
written_alike order w at value cells =
    let k = only_its_cells order w at value cells in
    record { room = k.room; same = λ j u. k.same j (outside at w j u) }
