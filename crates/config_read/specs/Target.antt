-- The checks of a configuration call: document 01, "Numbers handed back", "Order of checks".
use Rattle.std.specs.Prelude.{ℕ, ◌+◌, ◌-◌, Bool, cond, ◌&&◌, leb, Result, Ok, Err}
use Rattle.numbers.specs.Numbers.{is_multiple}
use Rattle.board.specs.Layout.{registers_each}
use Rattle.board.specs.declared.status.CallRefusal.{CallRefusal}
use Rattle.board.specs.declared.status.CallRefusal.TheVariants.{BadRegisterNumber, BadHandle}

-- w bytes from a register on: a word is even, a longword a multiple of 4, and none passes FFh
-- (which the code, given a byte, need not test)
abbrev pub fits : ℕ → ℕ → Bool
fits w register = is_multiple register w && leb (register + w) registers_each

-- the function that an access is for, by its place; the order of checks is -9, -5, and the handle
-- of the function at place i is i + 1
unfoldable pub target : Bool → ℕ → ℕ → ℕ → Result ℕ CallRefusal
target good w handle register =
    cond good
    (cond (fits w register) (Ok (handle - 1)) (Err BadRegisterNumber))
    (Err BadHandle)
