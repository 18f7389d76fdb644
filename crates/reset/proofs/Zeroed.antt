-- Laws of lists: cells zeroed.
use Prim.Native.Nat.{ℕ, ◌+◌, ◌-◌, ◌≤◌}
use native.Mathlib.Omega.{arith}
use mathlib.Core.Path.{◌≡◌, sym, ◌∙◌, ap}
use mathlib.Core.List.{List}
use lib.ListN.{length, get_or, drop, replicate, length-append, length-replicate, length-drop}
use lib.Seq.{get_or-append-add, get_or-drop}
use Rattle.cell_layout.specs.Cells.{zeroed}

pub zeroed_length : (n : ℕ) (l : List ℕ) → n ≤ length l → length (zeroed n l) ≡ length l
zeroed_length n l h = length-append (replicate n 0) (drop n l) ∙ rw (length-replicate {A = ℕ} n 0, length-drop n l) (omega arith)

pub zeroed_past : (n : ℕ) (l : List ℕ) (i : ℕ) → n ≤ i → get_or (zeroed n l) i 0 ≡ get_or l i 0
zeroed_past n l i h =
    let e : i ≡ n + (i - n) = omega arith in
    let m : i ≡ length (replicate {A = ℕ} n 0) + (i - n) = rw (length-replicate {A = ℕ} n 0) e in
    ap (λ j. get_or (zeroed n l) j 0) m ∙ get_or-append-add (replicate n 0) (drop n l) (i - n) 0 ∙ get_or-drop n l (i - n) 0 ∙ ap (λ j. get_or l j 0) (sym e)
