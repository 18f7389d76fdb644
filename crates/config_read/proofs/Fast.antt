-- The fast read against the plain read.
use Prim.Native.Nat.{ℕ, ◌-◌, ◌^◌}
use mathlib.Core.Bool.{true, false, true≢false, false≢true}
use mathlib.Core.Logic.{◌↔◌}
use mathlib.Core.Path.{◌≡◌, refl}
use Rattle.std.specs.Prelude.{Result, Ok, Err}
use Rattle.board.specs.Handles.{is_handle}
use Rattle.board.specs.Layout.{register_byte}
use Rattle.board.specs.Reads.{Read, value_of, fast_of}
use Rattle.board.specs.Statuses.{refusal_number, number_of, successful}
use Rattle.board.specs.declared.status.CallRefusal.{CallRefusal}
use Rattle.board.specs.declared.status.CallRefusal.TheVariants.{
  FuncNotSupported,
  BadVendorId,
  DeviceNotFound,
  BadRegisterNumber,
  SetFailed,
  BufferTooSmall,
  GeneralError,
  BadHandle,
}
use Rattle.config_read.specs.Target.{target}
use Rattle.config_read.specs.Read.{read_of, fast_read_of, read_config}
use Rattle.config_read.specs.Meaning.{FastReadAgrees}

-- no refusal has the number of success
never : (r : CallRefusal) → refusal_number r ≡ number_of successful → ⊥
never FuncNotSupported e = cc
never BadVendorId e = cc
never DeviceNotFound e = cc
never BadRegisterNumber e = cc
never SetFailed e = cc
never BufferTooSmall e = cc
never GeneralError e = cc
never BadHandle e = cc

of_read : (w : ℕ) (read : Read)
    → (((fast_of w read).fault ≡ false) ↔ (number_of read ≡ number_of successful))
    × (((fast_of w read).fault ≡ false → (fast_of w read).value ≡ value_of read)
    × ((fast_of w read).fault ≡ true → (fast_of w read).value ≡ 256 ^ w - 1))
of_read w (Ok v) = ((λ e. refl, λ e. refl), (λ e. refl, λ e. absurd (false≢true e)))
of_read w (Err r) = ((λ e. absurd (true≢false e), λ e. absurd (never r e)), (λ e. absurd (true≢false e), λ e. refl))

-- at any target a fast read is what is made of the plain read
fast_is_plain : (r : ℕ → ℕ → ℕ) (w register : ℕ) (t : Result ℕ CallRefusal)
    → fast_read_of r w register t ≡ fast_of w (read_of r w register t)
fast_is_plain r w register (Ok i) = refl
fast_is_plain r w register (Err s) = refl

-- THEOREM: an accepted fast read is the plain read; a refused one is refused as the plain read is, and gives all ones
pub fast_read_lem : FastReadAgrees
fast_read_lem w header registers handle register =
    rw (fast_is_plain (register_byte registers) w register (target (is_handle header handle) w handle register))
    (of_read w (read_config w header registers handle register))
