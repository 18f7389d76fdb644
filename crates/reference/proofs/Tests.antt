-- For all claims: a choice taken apart, of one term, of two terms that make the same test or tests
-- that come out alike, of a test by itself, of what a configuration access is for, and of where a
-- data access stands.
use Prim.Native.Nat.{ℕ, ◌+◌, ◌-◌, ◌<◌, ◌≤◌}
use native.Mathlib.Omega.{arith}
use mathlib.Core.Bool.{Bool, true, false, cond, ◌&&◌}
use mathlib.Core.Path.{◌≡◌, refl}
use lib.Dec.{leb}
use borrow.Author.Tests.{leb-true}
use Rattle.board.specs.Layout.{registers_each}
use Rattle.numbers.specs.Numbers.{is_multiple}
use Rattle.numbers.proofs.Tests.{both_true}
use Rattle.config_read.specs.Target.{fits, target}
use Rattle.board.specs.declared.status.CallRefusal.{CallRefusal}
use Rattle.board.specs.declared.status.CallRefusal.TheVariants.{BadRegisterNumber, BadHandle}
use Rattle.data_window.specs.declared.refusal.DataRefusal.{DataRefusal}
use Rattle.data_cells.specs.Cells.{CellTarget}
use Rattle.data_cells.specs.declared.target.Cells.{Cells}
use Rattle.std.specs.Prelude.{Result, Ok, Err}

pub if_test : {A : Type 0} (P : A → Type 0) (t : Bool) {x y : A} → (t ≡ true → P x) → (t ≡ false → P y) → P (cond t x y)
if_test P true p q = p refl
if_test P false p q = q refl

pub if_both : {A B : Type 0} (P : A → B → Type 0) (t : Bool) {x y : A} {x' y' : B} → (t ≡ true → P x x') → (t ≡ false → P y y')
    → P (cond t x y) (cond t x' y')
if_both P true p q = p refl
if_both P false p q = q refl

-- two tests that come out alike
pub if_alike : {A B : Type 0} (P : A → B → Type 0) {t u : Bool} {x y : A} {x' y' : B} → t ≡ u → (u ≡ true → P x x') → (u ≡ false → P y y')
    → P (cond t x y) (cond u x' y')
if_alike P {t} {u} e p q = rw e (if_both P u p q)

-- a test came out one way or the other: what is proved need not be said of the term that makes it
pub if_either : {X : Type 0} (t : Bool) → (t ≡ true → X) → (t ≡ false → X) → X
if_either true f g = f refl
if_either false f g = g refl

-- an accepted access is for the function of its handle, and inside its registers
pub if_target : (P : Result ℕ CallRefusal → Type 0) (count w handle register : ℕ)
    → ((i : ℕ) → i < count → handle ≡ i + 1 → register + w ≤ registers_each → P (Ok i))
    → P (Err BadRegisterNumber) → P (Err BadHandle)
    → P (target (leb 1 handle && leb handle count) w handle register)
unfolding target
if_target P count w handle register f r h =
    if_test P (leb 1 handle && leb handle count)
    (λ e.
    let low = leb-true 1 handle (both_true (leb 1 handle) (leb handle count) e).0 in
    let high = leb-true handle count (both_true (leb 1 handle) (leb handle count) e).1 in
    if_test P (fits w register)
    (λ g. f (handle - 1) (omega arith) (omega arith) (leb-true (register + w) registers_each (both_true (is_multiple register w) (leb (register + w) registers_each) g).1))
    (λ g. r))
    (λ e. h)

-- a data access stands at cells or is refused
pub if_at : {X : Type 0} (q : CellTarget) → ((c : Cells) → q ≡ Ok c → X) → ((r : DataRefusal) → q ≡ Err r → X) → X
if_at (Ok c) f g = f c refl
if_at (Err r) f g = g r refl
