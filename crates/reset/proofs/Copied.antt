-- Laws of lists: the reset values of a function copied behind those of the functions before it.
use Prim.Native.Nat.{ℕ, zero, suc, ◌+◌, ◌*◌, ◌/◌, ◌%◌, ◌<◌, ◌≤◌}
use native.Mathlib.Omega.{arith}
use native.Mathlib.Nat.{zero-add}
use mathlib.Core.Path.{◌≡◌, refl, sym, ◌∙◌, ap}
use mathlib.Core.List.{List, ◌∷◌, ◌++◌}
use lib.ListN.{length, get_or, take, drop, length-append, length-drop}
use lib.Seq.{drop-cons, drop-drop, length-take-le}
use borrow.Rule.Slice.PartMut.{put_mid}
use Rattle.std.proofs.lemmas.Slice.{take-put_mid}
use Rattle.numbers.specs.Tables.{table_from}
use Rattle.board.specs.Layout.{functions_max, record_size, registers_each, record_byte}
use Rattle.reset.specs.Reset.{first_register, first_registers}

table_append : (i n m : ℕ) (f : ℕ → ℕ) → table_from i (n + m) f ≡ table_from i n f ++ table_from (i + n) m f
unfolding table_from
table_append i zero m f = let e : i + 0 ≡ i = omega arith in rw (zero-add m, e)
table_append i (suc n) m f =
    let e : i + suc n ≡ suc i + n = omega arith in
    let s : suc n + m ≡ suc (n + m) = omega arith in
    rw (s, e) (ap (λ (l : List ℕ). f i ∷ l) (table_append (suc i) n m f))

-- a table whose values are a part of a list
table_part : (l : List ℕ) (i at n : ℕ) (f : ℕ → ℕ) → at + n ≤ length l → ((j : ℕ) → j < n → f (i + j) ≡ get_or l (at + j) 0)
    → table_from i n f ≡ take n (drop at l)
unfolding table_from
table_part l i at zero f h e = refl
table_part l i at (suc n) f h e =
    let first : f i ≡ get_or l at 0 = ap f (omega arith) ∙ e 0 (omega arith) ∙ ap (λ k. get_or l k 0) (omega arith) in
    let rest = table_part l (suc i) (suc at) n f (omega arith)
    (λ j b. ap f (omega arith) ∙ e (suc j) (omega arith) ∙ ap (λ k. get_or l k 0) (omega arith)) in
    rw (drop-cons l at 0 (omega arith), first, rest)

-- register i of a function is the byte of its record that the table names
same_position : (f i : ℕ) → i < registers_each
    → record_size * f + i ≡ record_size * ((registers_each * f + i) / registers_each) + (registers_each * f + i) % registers_each
same_position f i h =
    let which : (registers_each * f + i) / registers_each ≡ f = omega arith in
    let which-byte : (registers_each * f + i) % registers_each ≡ i = omega arith in
    rw (which, which-byte)

-- what a copy into the middle leaves has the length that was there
pub copied_length : (at k : ℕ) (l part : List ℕ) → at + k ≤ length l → length part ≡ k → length (put_mid at k l part) ≡ length l
copied_length at k l part h e =
    let front = length-take-le at l (omega arith) in
    rw (length-append, length-append, front, e, drop-drop k at l, length-drop) (omega arith)

-- one function more
pub copied : (records registers : List ℕ) (f k n : ℕ) → f < functions_max → length records ≡ functions_max * record_size
    → length registers ≡ functions_max * registers_each → n ≡ registers_each
    → take (registers_each * f) registers ≡ first_registers records (registers_each * f)
    → take (registers_each * (f + 1)) (put_mid (registers_each * f) k registers (take n (drop (record_size * f) records)))
    ≡ first_registers records (registers_each * (f + 1))
copied records registers f k n h room_r room n_is before =
    let r = registers_each * f in
    let p = take n (drop (record_size * f) records) in
    let g = λ (j : ℕ). first_register (record_byte records) (j / registers_each) (j % registers_each) in
    let next : registers_each * (f + 1) ≡ r + registers_each = omega arith in
    let fits : n ≤ length (drop (record_size * f) records) = rw length-drop (omega arith) in
    let long : length p ≡ registers_each = length-take-le n _ fits ∙ n_is in
    let part : table_from r registers_each g ≡ p =
    table_part records r (record_size * f) registers_each g (omega arith)
    (λ j b. ap (λ i. get_or records i 0) (sym (same_position f j b)))
    ∙ ap (λ i. take i (drop (record_size * f) records)) (sym n_is) in
    let all : table_from 0 (r + registers_each) g ≡ table_from 0 r g ++ table_from r registers_each g
    = table_append 0 r registers_each g ∙ rw (zero-add r) in
    take-put_mid r k registers p _ (omega (arith, long)) (omega arith) ∙ rw (before, next, ← part) (sym all)
