-- Rows with literal numbers of document 01, "Runs and the book", hook and unhook: one hook comes in
-- or goes out, and the others keep their order.
use Rattle.std.specs.Prelude.{ℕ, List, [], ◌∷◌, map, ◌≡◌, get_or}
use Rattle.interrupt_array.specs.declared.hooks.Hook.{Hook}
use Rattle.interrupt_array.specs.Hooks.{hook}
use Rattle.interrupt_edit.specs.declared.change.Change.{Change}
use Rattle.interrupt_edit.specs.declared.change.Change.TheVariants.{In, Out}
use Rattle.interrupt_edit.specs.Changes.{after_change}

-- the first four entries after a change to the hooks of handles 2, 1, 4
abbrev old : ℕ → Hook
old e = get_or (hook 2 0x2000 7 ∷ hook 1 0x1000 8 ∷ hook 4 0x4000 5 ∷ []) e (hook 0 0 0)

abbrev entries : Change → List Hook
entries change = map (after_change change old) (0 ∷ 1 ∷ 2 ∷ 3 ∷ [])

pub record InterruptEditRows : Type 0 where
  -- hook: its entry, put at its position
  pub in_first : entries (In 0 (hook 3 0x3000 9))
      ≡ hook 3 0x3000 9 ∷ hook 2 0x2000 7 ∷ hook 1 0x1000 8 ∷ hook 4 0x4000 5 ∷ []
  pub in_between : entries (In 1 (hook 3 0x3000 9))
      ≡ hook 2 0x2000 7 ∷ hook 3 0x3000 9 ∷ hook 1 0x1000 8 ∷ hook 4 0x4000 5 ∷ []
  pub in_last : entries (In 3 (hook 3 0x3000 9))
      ≡ hook 2 0x2000 7 ∷ hook 1 0x1000 8 ∷ hook 4 0x4000 5 ∷ hook 3 0x3000 9 ∷ []
  -- unhook: its entry goes, the others keep their order
  pub out_first : entries (Out 0)
      ≡ hook 1 0x1000 8 ∷ hook 4 0x4000 5 ∷ hook 0 0 0 ∷ hook 0 0 0 ∷ []
  pub out_between : entries (Out 1)
      ≡ hook 2 0x2000 7 ∷ hook 4 0x4000 5 ∷ hook 0 0 0 ∷ hook 0 0 0 ∷ []
  pub out_last : entries (Out 2)
      ≡ hook 2 0x2000 7 ∷ hook 1 0x1000 8 ∷ hook 0 0 0 ∷ hook 0 0 0 ∷ []
