-- Hooking and unhooking: document 01, "Numbers handed back" and "Chains and marks". All chains are
-- in one array, lines ascending and the hooks of a line together in hooking order, so that the
-- array follows from the chains alone.
use Rattle.std.specs.Prelude.{ℕ, zero, suc, ◌+◌, ◌-◌, Bool, cond, ◌&&◌, not, List, eqb, leb, ltb}
use Rattle.board.specs.Handles.{is_handle}
use Rattle.board.specs.Layout.{functions_max}
use Rattle.board.specs.Statuses.{Status, successful, set_failed, general_error, bad_handle}
use Rattle.interrupt_array.specs.declared.hooks.Hook.{Hook}
use Rattle.interrupt_array.specs.Hooks.{
  hook,
  is_hook,
  hook_at,
  array_of,
  line_of,
  pin_of,
  is_routed,
}
use Rattle.interrupt_edit.specs.Changes.{after_hook, after_unhook}

-- one past the last of the first n positions at which a test holds, 0 where there is none
unfoldable pub past_last : (ℕ → Bool) → ℕ → ℕ
past_last t zero = 0
past_last t (suc n) = cond (t n) (suc n) (past_last t n)

-- the first of n positions from i on at which a test holds, the position after them where there is
-- none
unfoldable pub first_from : (ℕ → Bool) → ℕ → ℕ → ℕ
first_from t i zero = i
first_from t i (suc n) = cond (t i) i (first_from t (i + 1) n)

-- a new hook on a line goes after the last hook on it or on a line below it
abbrev pub up_to_line : List ℕ → ℕ → Hook → Bool
up_to_line records line h = is_hook h && leb (line_of records h.handle) line

abbrev pub position_for : List ℕ → List ℕ → ℕ → ℕ
position_for records hooks line = past_last (λ e. up_to_line records line (hook_at hooks e)) functions_max

-- the position of the first hook of a handle
abbrev pub position_of : List ℕ → ℕ → ℕ
position_of hooks handle = first_from (λ e. eqb (hook_at hooks e).handle handle) 0 functions_max

abbrev pub is_hooked : List ℕ → ℕ → Bool
is_hooked hooks handle = ltb (position_of hooks handle) functions_max

-- a function has no hook yet, and the array has room for one: for such a function it is full only
-- on an altered board
abbrev pub is_free : List ℕ → ℕ → Bool
is_free hooks handle = not (is_hooked hooks handle) && eqb (hook_at hooks (functions_max - 1)).handle 0

-- hook: -9; -8 pin 0 or line not 0..15; -6 already hooked, or no room
abbrev pub hook_checks : {A : Type 0} → Bool → Bool → Bool → A → (Status → A) → A
hook_checks good routed free accepted refused =
    cond good
    (cond routed (cond free accepted (refused set_failed))
    (refused general_error))
    (refused bad_handle)

-- unhook: -9; -8 not hooked
abbrev pub unhook_checks : {A : Type 0} → Bool → Bool → A → (Status → A) → A
unhook_checks good hooked accepted refused =
    cond good (cond hooked accepted (refused general_error)) (refused bad_handle)

-- a status, and the array that is left
pub record HookOutcome : Type 0 where
  pub status : Status
  pub hooks : List ℕ

abbrev pub hook_outcome : Status → List ℕ → HookOutcome
hook_outcome status hooks = record { status = status; hooks = hooks }

-- the array with a hook put last on the line of its function, and without the hook of a handle
abbrev pub hooked : List ℕ → List ℕ → Hook → List ℕ
hooked records hooks new =
    array_of
    (after_hook (hook_at hooks) (position_for records hooks (line_of records new.handle)) new)

abbrev pub unhooked : List ℕ → ℕ → List ℕ
unhooked hooks handle = array_of (after_unhook (hook_at hooks) (position_of hooks handle))

abbrev pub hook_interrupt : List ℕ → List ℕ → List ℕ → ℕ → ℕ → ℕ → HookOutcome
hook_interrupt header records hooks handle handler parameter =
    hook_checks
    (is_handle header handle)
    (is_routed (pin_of records handle) (line_of records handle))
    (is_free hooks handle)
    (hook_outcome successful (hooked records hooks (hook handle handler parameter)))
    (λ s. hook_outcome s hooks)

abbrev pub unhook_interrupt : List ℕ → List ℕ → ℕ → HookOutcome
unhook_interrupt header hooks handle =
    unhook_checks (is_handle header handle) (is_hooked hooks handle)
    (hook_outcome successful (unhooked hooks handle))
    (λ s. hook_outcome s hooks)
