-- The length exponent of a window is 2 to 16.
use Prim.Native.Nat.{ℕ, ◌≤◌}
use mathlib.Core.Bool.{true}
use mathlib.Core.Path.{◌≡◌}
use lib.Dec.{leb}
use borrow.Author.Tests.{leb-true}
use Rattle.numbers.proofs.Tests.{both_true}
use Rattle.window.specs.Window.{is_window}

pub window_range : (k : ℕ) → is_window k ≡ true → (2 ≤ k) × (k ≤ 16)
window_range k e = let t = both_true (leb 2 k) (leb k 16) e in (leb-true 2 k t.0, leb-true k 16 t.1)
