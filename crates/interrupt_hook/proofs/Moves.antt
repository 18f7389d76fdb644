-- The entries after a hook came in or went out: those before its position stay, the others move by
-- one.
use Prim.Native.Nat.{ℕ, suc, ◌+◌, ◌-◌, ◌<◌, ◌≤◌}
use native.Mathlib.Omega.{arith}
use native.Mathlib.Nat.{zero-add}
use mathlib.Core.List.{List, [], ◌∷◌, ◌++◌}
use mathlib.Core.Path.{◌≡◌, refl, ◌∙◌, ap}
use borrow.Author.Tests.{lt-ltb, le-ltb, eq-eqb, ne_eqb}
use Rattle.board.specs.Layout.{functions_max}
use Rattle.interrupt_array.specs.declared.hooks.Hook.{Hook}
use Rattle.interrupt_array.specs.Hooks.{hook_at, hooks_from, hooks_of, array_of}
use Rattle.interrupt_edit.specs.Changes.{after_hook, after_unhook}
use Rattle.interrupt_hook.proofs.Entries.{array_at, entries_same, entries_split}

module _ (f : ℕ → Hook) (p : ℕ) where
  pub hook_before : (new : Hook) (e : ℕ) → e < p → after_hook f p new e ≡ f e
  hook_before new e h = rw (lt-ltb e p h)

  pub hook_here : (new : Hook) → after_hook f p new p ≡ new
  hook_here new = rw (le-ltb p p (omega arith), eq-eqb p p refl)

  pub hook_after : (new : Hook) (e : ℕ) → p < e → after_hook f p new e ≡ f (e - 1)
  hook_after new e h = rw (le-ltb e p (omega arith), ne_eqb e p (λ z. omega arith))

  pub unhook_before : (e : ℕ) → e < p → after_unhook f p e ≡ f e
  unhook_before e h = rw (lt-ltb e p h)

  pub unhook_after : (e : ℕ) → p ≤ e → after_unhook f p e ≡ f (e + 1)
  unhook_after e h = rw (le-ltb e p h)

-- the entries of an array that is made of them
array_entries : (f : ℕ → Hook) → hooks_of (array_of f) ≡ hooks_from 0 functions_max f
array_entries f = entries_same 0 0 functions_max (hook_at (array_of f)) f (λ j h. array_at f (0 + j) (omega arith))

module _ (f : ℕ → Hook) (p : ℕ) (room : p < functions_max) where
  -- all entries, cut around one position, and with the last one apart
  pub around : hooks_from 0 functions_max f ≡ hooks_from 0 p f ++ f p ∷ hooks_from (p + 1) (15 - p) f
  unfolding hooks_from
  around =
      let e : functions_max ≡ p + suc (15 - p) = omega arith in
      ap (λ n. hooks_from 0 n f) e ∙ entries_split 0 p (suc (15 - p)) f ∙ rw (zero-add p)

  pub but_last : hooks_from 0 functions_max f ≡ hooks_from 0 p f ++ (hooks_from p (15 - p) f ++ f 15 ∷ [])
  unfolding hooks_from
  but_last =
      let e : functions_max ≡ p + (15 - p + 1) = omega arith in
      let z : 0 + p ≡ p = omega arith in
      let l : p + (15 - p) ≡ 15 = omega arith in
      ap (λ n. hooks_from 0 n f) e
      ∙ entries_split 0 p (15 - p + 1) f
      ∙ rw z (ap (λ (m : List Hook). hooks_from 0 p f ++ m) (entries_split p (15 - p) 1 f ∙ rw l))

-- after a hook came in at a position
pub hooked_entries : (f : ℕ → Hook) (p : ℕ) (new : Hook) → p < functions_max
    → hooks_of (array_of (after_hook f p new)) ≡ hooks_from 0 p f ++ new ∷ hooks_from p (15 - p) f
hooked_entries f p new h =
    let g = after_hook f p new in
    let front : hooks_from 0 p g ≡ hooks_from 0 p f = entries_same 0 0 p g f (λ j l. hook_before f p new (0 + j) (omega arith)) in
    let back : hooks_from (p + 1) (15 - p) g ≡ hooks_from p (15 - p) f =
    entries_same (p + 1) p (15 - p) g f (λ j l. hook_after f p new (p + 1 + j) (omega arith) ∙ ap f (omega arith)) in
    array_entries g ∙ around g p h ∙ rw (front, back, hook_here f p new)

-- after the one at a position went out
pub unhooked_entries : (f : ℕ → Hook) (p : ℕ) → p < functions_max
    → hooks_of (array_of (after_unhook f p)) ≡ hooks_from 0 p f ++ (hooks_from (p + 1) (15 - p) f ++ f 16 ∷ [])
unhooked_entries f p h =
    let g = after_unhook f p in
    let front : hooks_from 0 p g ≡ hooks_from 0 p f = entries_same 0 0 p g f (λ j l. unhook_before f p (0 + j) (omega arith)) in
    let back : hooks_from p (15 - p) g ≡ hooks_from (p + 1) (15 - p) f =
    entries_same p (p + 1) (15 - p) g f (λ j l. unhook_after f p (p + j) (omega arith) ∙ ap f (omega arith)) in
    array_entries g ∙ but_last g p h ∙ rw (front, back, unhook_after f p 15 (omega arith))
