-- The numbers of the hook array as those of its entries.
use Prim.Native.Nat.{ℕ, ◌+◌, ◌*◌, ◌/◌, ◌%◌}
use native.Mathlib.Omega.{arith}
use mathlib.Core.Bool.{Bool, true, false, cond}
use mathlib.Core.List.{List}
use mathlib.Core.Path.{◌≡◌, refl, ap}
use lib.Dec.{eqb}
use lib.ListN.{get_or}
use borrow.Author.Tests.{eqb-true, eqb-false}
use Rattle.interrupt_array.specs.Hooks.{hook_at, array_number}

-- number j of an array is the number of its entries there
pub number_here : (l : List ℕ) (j : ℕ) → array_number (hook_at l) j ≡ get_or l j 0
number_here l j = by (eqb (j % 3) 0) (eqb (j % 3) 1) refl refl
  where
    by : (a b : Bool) → eqb (j % 3) 0 ≡ a → eqb (j % 3) 1 ≡ b
        → cond a (get_or l (3 * (j / 3)) 0) (cond b (get_or l (3 * (j / 3) + 1) 0) (get_or l (3 * (j / 3) + 2) 0)) ≡ get_or l j 0
    by true b e f = let z : j % 3 ≡ 0 = eqb-true (j % 3) 0 e in ap (λ i. get_or l i 0) (omega arith)
    by false true e f = let z : j % 3 ≡ 1 = eqb-true (j % 3) 1 f in ap (λ i. get_or l i 0) (omega arith)
    by false false e f =
        let y : j % 3 ≡ 0 → ⊥ = eqb-false (j % 3) 0 e in
        let z : j % 3 ≡ 1 → ⊥ = eqb-false (j % 3) 1 f in
        ap (λ i. get_or l i 0) (omega arith)
