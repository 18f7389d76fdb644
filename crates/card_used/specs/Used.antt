-- Card-used marks: document 01, "Chains and marks" and "Numbers handed back".
use Rattle.std.specs.Prelude.{ℕ, ◌+◌, ◌*◌, ◌-◌, ◌/◌, ◌%◌, Bool, cond, List, eqb, leb, get_or, set, Result, Ok, Err}
use Rattle.board.specs.Handles.{is_handle}
use Rattle.board.specs.Layout.{functions_max, mark_size}
use Rattle.board.specs.Statuses.{Status, successful, general_error, bad_handle}
use Rattle.numbers.specs.Tables.{table}
use Rattle.board.specs.declared.status.CallRefusal.{CallRefusal}
use Rattle.board.specs.declared.status.CallRefusal.TheVariants.{BadHandle}
use Rattle.card_used.specs.declared.used.Mark.{Mark}

-- a mark of a status and a call-back address
abbrev pub mark : ℕ → ℕ → Mark
mark status call_back = record { status = status; call_back = call_back }

-- the mark of the function at place i, and the array with another one there
abbrev pub mark_at : List ℕ → ℕ → Mark
mark_at used i = mark (get_or used (mark_size * i) 0) (get_or used (mark_size * i + 1) 0)

abbrev pub mark_put : List ℕ → ℕ → Mark → List ℕ
mark_put used i m = set (set used (mark_size * i) m.status) (mark_size * i + 1) m.call_back

-- the array that holds the marks of all functions
abbrev pub mark_number : (ℕ → Mark) → ℕ → ℕ
mark_number f j = cond (eqb (j % mark_size) 0) (f (j / mark_size)).status (f (j / mark_size)).call_back

abbrev pub marks_of : (ℕ → Mark) → List ℕ
marks_of f = table (functions_max * mark_size) (mark_number f)

-- the call-back address is kept for 2 and is 0 otherwise
abbrev pub call_back_kept : ℕ → ℕ → ℕ
call_back_kept status call_back = cond (eqb status 2) call_back 0

abbrev pub new_mark : ℕ → ℕ → Mark
new_mark status call_back = mark status (call_back_kept status call_back)

-- get used: -9
abbrev pub used_of : Bool → Mark → Result Mark CallRefusal
used_of good m = cond good (Ok m) (Err BadHandle)

abbrev pub get_card_used : List ℕ → List ℕ → ℕ → Result Mark CallRefusal
get_card_used header used handle = used_of (is_handle header handle) (mark_at used (handle - 1))

-- set used: -9; -8 status above 3
abbrev pub set_checks : {A : Type 0} → Bool → ℕ → A → (Status → A) → A
set_checks good status accepted refused =
    cond good (cond (leb status 3) accepted (refused general_error)) (refused bad_handle)

-- a status, and the array that is left
pub record MarkOutcome : Type 0 where
  pub status : Status
  pub used : List ℕ

abbrev pub mark_outcome : Status → List ℕ → MarkOutcome
mark_outcome status used = record { status = status; used = used }

abbrev pub set_card_used : List ℕ → List ℕ → ℕ → ℕ → ℕ → MarkOutcome
set_card_used header used handle status call_back =
    set_checks (is_handle header handle) status
    (mark_outcome successful (mark_put used (handle - 1) (new_mark status call_back)))
    (λ s. mark_outcome s used)
