-- For claim 2: records one by one, as the reference machine has them, and as one list of bytes.
use Prim.Native.Nat.{ℕ, zero, suc, ◌+◌, ◌*◌, ◌<◌, ◌≤◌}
use native.Mathlib.Omega.{arith}
use mathlib.Core.Path.{◌≡◌, refl, sym, ◌∙◌, ap}
use mathlib.Core.Bool.{Bool, true}
use mathlib.Core.List.{List, [], ◌∷◌, ◌++◌}
use lib.ListN.{length, take, drop, length-append, length-drop, get_or-append, get_or-eq_default, take-append-drop}
use lib.Seq.{get_or-append-add, get_or-take, get_or-drop, drop-drop, length-take-le}
use Rattle.numbers.specs.Numbers.{byte_at}
use Rattle.board.specs.Layout.{functions_max, record_size, record_byte}
use Rattle.image_record.specs.Record.{record_ok}
use Rattle.cell_layout.specs.Cells.{total}
use Rattle.image_layout.specs.Image.{image_record, record_at}
use Rattle.image_refusals.specs.Refusals.{cells_max, first_bad}
use Rattle.reference.specs.Reference.{record_of, exponent_of, joined, split}

-- every record has all its bytes
abbrev pub Sized : List (List ℕ) → Type 0
Sized [] = Unit {0}
Sized (r ∷ rs) = (length r ≡ record_size) × Sized rs

-- the records of an accepted image: what holds of them, whatever is done to the board
pub record Ruled (rs : List (List ℕ)) : Type 0 where
  pub few : length rs ≤ functions_max
  pub sized : Sized rs
  pub ruled : (i : ℕ) → i < length rs → record_ok (record_of rs i) ≡ true
  pub small : total (exponent_of rs) ≤ cells_max

pub joined_length : (rs : List (List ℕ)) → Sized rs → length (joined rs) ≡ record_size * length rs
unfolding joined
joined_length [] s = refl
joined_length (r ∷ rs) s = length-append r (joined rs) ∙ omega (arith, s.0, joined_length rs s.1)

-- a byte of a record, where the records stand one after another
pub joined_byte : (rs : List (List ℕ)) → Sized rs → (i at : ℕ) → at < record_size → record_byte (joined rs) i at ≡ byte_at (record_of rs i) at
unfolding joined
joined_byte [] s i at h = refl
joined_byte (r ∷ rs) s zero at h =
    let e : record_size * 0 + at ≡ at = omega arith in
    rw e (get_or-append r (joined rs) 0 at (omega (arith, s.0)))
joined_byte (r ∷ rs) s (suc i) at h =
    let e : record_size * suc i + at ≡ length r + (record_size * i + at) = omega (arith, s.0) in
    rw e (get_or-append-add r (joined rs) (record_size * i + at) 0 ∙ joined_byte rs s.1 i at h)

pub split_length : (n : ℕ) (l : List ℕ) → length (split n l) ≡ n
unfolding split
split_length zero l = refl
split_length (suc n) l = ap suc (split_length n (drop image_record l))

pub split_sized : (n : ℕ) (l : List ℕ) → image_record * n ≤ length l → Sized (split n l)
unfolding split
split_sized zero l h = tt
split_sized (suc n) l h =
    (length-take-le image_record l (omega arith), split_sized n (drop image_record l) (rw (length-drop image_record l) (omega arith)))

pub split_joined : (n : ℕ) (l : List ℕ) → length l ≡ image_record * n → joined (split n l) ≡ l
unfolding split joined
split_joined zero l h = empty l h
  where
    empty : (m : List ℕ) → length m ≡ 0 → [] ≡ m
    empty [] e = refl
    empty (x ∷ m) e = absurd (omega arith)
split_joined (suc n) l h =
    ap (λ (m : List ℕ). take image_record l ++ m) (split_joined n (drop image_record l) (length-drop image_record l ∙ omega arith))
    ∙ take-append-drop image_record l

pub split_byte : (n : ℕ) (l : List ℕ) (i at : ℕ) → length l ≤ image_record * n → at < image_record → byte_at (record_of (split n l) i) at ≡ record_byte l i at
unfolding split
split_byte zero l i at h a = sym (get_or-eq_default l 0 (omega arith))
split_byte (suc n) l zero at h a =
    let e : image_record * 0 + at ≡ at = omega arith in
    rw e (get_or-take image_record l at 0 a)
split_byte (suc n) l (suc i) at h a =
    let e : image_record * suc i + at ≡ image_record + (image_record * i + at) = omega arith in
    rw e (split_byte n (drop image_record l) i at (rw (length-drop image_record l) (omega arith)) a ∙ get_or-drop image_record l (image_record * i + at) 0)

pub split_record : (n : ℕ) (l : List ℕ) (i : ℕ) → i < n → record_of (split n l) i ≡ record_at l i
unfolding split
split_record zero l i h = absurd (omega arith)
split_record (suc n) l zero h = refl
split_record (suc n) l (suc i) h =
    let e : image_record * suc i ≡ image_record + image_record * i = omega arith in
    rw e (split_record n (drop image_record l) i (omega arith) ∙ ap (take image_record) (drop-drop (image_record * i) image_record l))

-- the first bad record depends on the places that are tested
pub bad_same : (f g : ℕ → Bool) (i n : ℕ) → ((j : ℕ) → j < i + n → f j ≡ g j) → first_bad f i n ≡ first_bad g i n
unfolding first_bad
bad_same f g i zero e = refl
bad_same f g i (suc n) e = rw (e i (omega arith), bad_same f g (i + 1) n (λ j h. e j (omega arith)))
