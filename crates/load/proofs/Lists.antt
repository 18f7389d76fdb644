-- Laws of lists: records copied over zeros.
use Prim.Native.Nat.{ℕ, zero, suc, ◌+◌, ◌*◌, ◌-◌, ◌/◌, ◌%◌}
use native.Mathlib.Omega.{arith}
use mathlib.Core.Path.{◌≡◌, refl, ◌∙◌, ap}
use mathlib.Core.List.{List, [], ◌∷◌, ◌++◌}
use lib.ListN.{length, get_or, drop, replicate}
use Rattle.board.specs.Layout.{functions_max, record_size, entries_at, entry_size, bases, windows_max, exponent}
use Rattle.load.specs.Load.{padded}
use Rattle.cell_layout.specs.Cells.{total}
use Rattle.cell_layout.proofs.Ranges.{before_same}

pub drop_zeros : (n m : ℕ) → drop n (replicate {A = ℕ} m 0) ≡ replicate (m - n) 0
drop_zeros zero m = let e : m - 0 ≡ m = omega arith in rw e
drop_zeros (suc n) zero = let e : 0 - suc n ≡ 0 = omega arith in rw e
drop_zeros (suc n) (suc m) = let e : suc m - suc n ≡ m - n = omega arith in rw e (drop_zeros n m)

-- zeros after a list are what is read past its end
pub zeros_after : (l : List ℕ) (n j : ℕ) → get_or (l ++ replicate n 0) j 0 ≡ get_or l j 0
zeros_after [] zero j = refl
zeros_after [] (suc n) zero = refl
zeros_after [] (suc n) (suc j) = zeros_after [] n j
zeros_after (x ∷ l) n zero = refl
zeros_after (x ∷ l) n (suc j) = zeros_after l n j

-- the records of an image, copied over zeros, are padded
pub copied_padded : (src out : List ℕ) → out ≡ src ++ drop (length src) (replicate (functions_max * record_size) 0) → out ≡ padded src
copied_padded src out e = e ∙ ap (λ (l : List ℕ). src ++ l) (drop_zeros (length src) (functions_max * record_size))

-- zeros after the records add no cells
pub padded_total : (records : List ℕ) → total (exponent (padded records)) ≡ total (exponent records)
padded_total records =
    before_same (exponent (padded records)) (exponent records) windows_max
    (λ i h. zeros_after records (functions_max * record_size - length records) (record_size * (i / bases) + (entries_at + entry_size * (i % bases) + 0)))
