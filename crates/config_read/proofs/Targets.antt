-- Which accesses are accepted, and for which function.
use Prim.Native.Nat.{ℕ, ◌+◌, ◌-◌}
use native.Mathlib.Omega.{arith}
use mathlib.Core.Bool.{Bool, true, false, cond}
use mathlib.Core.Path.{◌≡◌, refl}
use Rattle.std.specs.Prelude.{Ok, Err}
use lib.Dec.{leb}
use borrow.Author.Tests.{leb-true}
use Rattle.board.specs.Handles.{function_count, is_handle}
use Rattle.board.specs.Layout.{registers_each}
use Rattle.numbers.specs.Numbers.{is_multiple}
use Rattle.board.specs.declared.status.CallRefusal.TheVariants.{BadRegisterNumber, BadHandle}
use Rattle.numbers.proofs.Tests.{both_true}
use Rattle.config_read.specs.Target.{fits, target}
use Rattle.config_read.specs.Meaning.{InsideTable, InsideRegisters}

-- an access is accepted for the function of its handle, where the handle is good and the access fits
target_accepts : (good : Bool) (w handle register i : ℕ) → target good w handle register ≡ Ok i
    → (good ≡ true) × ((i ≡ handle - 1) × (fits w register ≡ true))
unfolding target
target_accepts good w handle register i = by good (fits w register)
  where
    by : (b f : Bool) → cond b (cond f (Ok (handle - 1)) (Err BadRegisterNumber)) (Err BadHandle) ≡ Ok i
        → (b ≡ true) × ((i ≡ handle - 1) × (f ≡ true))
    by true true e = (refl, (cc, refl))
    by true false e = (refl, (cc, cc))
    by false f e = (cc, (cc, cc))

-- THEOREM: an accepted access is for a function of the table
pub inside_table : InsideTable
inside_table header w handle register i e =
    let t = target_accepts (is_handle header handle) w handle register i e in
    let good = both_true (leb 1 handle) _ t.0 in
    omega (arith, t.1.0, leb-true 1 handle good.0, leb-true handle (function_count header) good.1)

-- THEOREM: no accepted access passes the last register
pub inside_registers : InsideRegisters
inside_registers good w handle register i e =
    leb-true (register + w) registers_each (both_true (is_multiple register w) _ (target_accepts good w handle register i e).1.1).1
