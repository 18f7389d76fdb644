-- What a private step needs: how large a handle a search can find. No public contract cites it.
use Rattle.std.specs.Prelude.{ℕ, Result, Ok, Err}
use Rattle.board.specs.declared.status.CallRefusal.{CallRefusal}

-- the handle that a search found, 0 for none
abbrev pub handle_found : Result ℕ CallRefusal → ℕ
handle_found (Ok handle) = handle
handle_found (Err refusal) = 0
