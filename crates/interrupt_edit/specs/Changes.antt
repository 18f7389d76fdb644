-- The entries of the hook array after a change: document 01, "Runs and the book", hook and unhook.
use Rattle.std.specs.Prelude.{ℕ, ◌+◌, ◌-◌, cond, eqb, ltb}
use Rattle.interrupt_edit.specs.declared.change.Change.{Change}
use Rattle.interrupt_edit.specs.declared.change.Change.TheVariants.{In, Out}
use Rattle.interrupt_array.specs.declared.hooks.Hook.{Hook}

-- the hooks after a new one is put at a position, and after the one at a position is gone
abbrev pub after_hook : (ℕ → Hook) → ℕ → Hook → ℕ → Hook
after_hook old position new e =
    cond (ltb e position) (old e) (cond (eqb e position) new (old (e - 1)))

abbrev pub after_unhook : (ℕ → Hook) → ℕ → ℕ → Hook
after_unhook old position e = cond (ltb e position) (old e) (old (e + 1))

abbrev pub after_change : Change → (ℕ → Hook) → ℕ → Hook
after_change (In position new) old = after_hook old position new
after_change (Out position) old = after_unhook old position
