-- The start that a descriptor shows: document 01, "Descriptors".
use Rattle.std.specs.Prelude.{ℕ, Bool, cond, ◌&&◌, List, [], ◌∷◌, eqb}
use Rattle.window.specs.Window.{Window}

-- w is the window of base register b of a handle
abbrev pub is_of : ℕ → ℕ → Window → Bool
is_of handle b w = eqb w.handle handle && eqb w.base b

-- start is 0 when contested
abbrev pub shown_start : Window → ℕ
shown_start w = cond w.contested 0 w.start

-- and when closed: the window of base register b is not in the list
unfoldable pub start_in : List Window → ℕ → ℕ → ℕ
start_in [] handle b = 0
start_in (w ∷ l) handle b = cond (is_of handle b w) (shown_start w) (start_in l handle b)
