-- The calls that always give -2, whatever the handle is: document 01, "Numbers handed back".
use Rattle.std.specs.Prelude.{ℕ}
use Rattle.board.specs.Statuses.{Status, func_not_supported}

abbrev pub special_cycle : ℕ → ℕ → Status
special_cycle bus message = func_not_supported

abbrev pub get_routing : ℕ → Status
get_routing handle = func_not_supported

abbrev pub set_interrupt : ℕ → ℕ → Status
set_interrupt handle mode = func_not_supported
