-- Hooks, the array that holds them, and the chain of a line: document 01, "The modelled board" and
-- "Chains and marks". One array of 16 hooks holds the chains of all lines, as a function has at
-- most one hook; the chain of a line is what the array has of it, in its order.
use Rattle.std.specs.Prelude.{ℕ, zero, suc, ◌+◌, ◌*◌, ◌-◌, ◌/◌, ◌%◌, Bool, cond, ◌&&◌, not, List, [], ◌∷◌, eqb, leb, get_or}
use Rattle.board.specs.Layout.{functions_max, hook_size, record_byte}
use Rattle.interrupt_array.specs.declared.hooks.Hook.{Hook}
use Rattle.numbers.specs.Tables.{table, filled_up}

abbrev pub hook : ℕ → ℕ → ℕ → Hook
hook handle handler parameter = record { handle = handle; handler = handler; parameter = parameter }

-- what stands at a position with no hook
abbrev pub no_hook : Hook
no_hook = hook 0 0 0

abbrev pub is_hook : Hook → Bool
is_hook h = not (eqb h.handle 0)

-- hook e of the array
abbrev pub hook_at : List ℕ → ℕ → Hook
hook_at hooks e =
    hook (get_or hooks (hook_size * e) 0)
    (get_or hooks (hook_size * e + 1) 0)
    (get_or hooks (hook_size * e + 2) 0)

-- n hooks from i on
unfoldable pub hooks_from : ℕ → ℕ → (ℕ → Hook) → List Hook
hooks_from i zero f = []
hooks_from i (suc n) f = f i ∷ hooks_from (i + 1) n f

-- all of them
abbrev pub hooks_of : List ℕ → List Hook
hooks_of hooks = hooks_from 0 functions_max (hook_at hooks)

-- a hook's three numbers in their order; number j of an array with these hooks; the array
abbrev pub hook_number : Hook → ℕ → ℕ
hook_number h k = cond (eqb k 0) h.handle (cond (eqb k 1) h.handler h.parameter)

abbrev pub array_number : (ℕ → Hook) → ℕ → ℕ
array_number f j = hook_number (f (j / hook_size)) (j % hook_size)

abbrev pub array_of : (ℕ → Hook) → List ℕ
array_of f = table (functions_max * hook_size) (array_number f)

-- the line and the pin of a function are the loaded ones: later writes do not reroute
abbrev pub line_of : List ℕ → ℕ → ℕ
line_of records handle = record_byte records (handle - 1) 0x3C

abbrev pub pin_of : List ℕ → ℕ → ℕ
pin_of records handle = record_byte records (handle - 1) 0x3D

abbrev pub last_line : ℕ
last_line = 15

-- whether a function interrupts at all, on a line that there is
abbrev pub is_routed : ℕ → ℕ → Bool
is_routed pin line = leb 1 pin && leb line last_line

-- those hooks of a list that pass a test, in their order
unfoldable pub chosen : (Hook → Bool) → List Hook → List Hook
chosen t [] = []
chosen t (h ∷ hs) = cond (t h) (h ∷ chosen t hs) (chosen t hs)

-- the chain of a line: its hooks, in the array's order
abbrev pub on_line : List ℕ → ℕ → Hook → Bool
on_line records line h = is_hook h && eqb (line_of records h.handle) line

abbrev pub chain_of : List ℕ → List ℕ → ℕ → List Hook
chain_of records hooks line = chosen (on_line records line) (hooks_of hooks)

-- the array that holds hooks one after the other: three numbers each, zeros after the last
unfoldable pub hook_numbers : List Hook → List ℕ
hook_numbers [] = []
hook_numbers (h ∷ hs) = h.handle ∷ h.handler ∷ h.parameter ∷ hook_numbers hs

abbrev pub packed : List Hook → List ℕ
packed hs = filled_up (functions_max * hook_size) (hook_numbers hs)
