-- An accepted unhook takes its hook from its chain, and the others keep their order.
use Prim.Native.Nat.{ℕ, zero, suc, ◌+◌, ◌*◌, ◌-◌, ◌<◌, ◌≤◌}
use native.Mathlib.Omega.{arith}
use mathlib.Core.Bool.{Bool, true, false, cond, true≢false}
use mathlib.Core.List.{List, [], ◌∷◌, ◌++◌}
use mathlib.Core.Path.{◌≡◌, refl, sym, ◌∙◌, ap}
use lib.Dec.{eqb}
use lib.ListN.{length, get_or-eq_default}
use borrow.Author.Tests.{eq-eqb, eqb-true, ltb-true}
use Rattle.board.specs.Handles.{is_handle}
use Rattle.board.specs.Layout.{functions_max, hook_size}
use Rattle.board.specs.Statuses.{successful}
use Rattle.interrupt_array.specs.declared.hooks.Hook.{Hook}
use Rattle.interrupt_array.specs.Hooks.{hook_at, hooks_from, chosen, on_line, chain_of}
use Rattle.interrupt_hook.specs.Chain.{position_of, is_hooked, unhooked, hook_outcome, unhook_checks}
use Rattle.interrupt_hook.specs.Meaning.{EveryHook, without, GoesOut}
use Rattle.interrupt_hook.proofs.Entries.{chosen_append, chosen_in, chosen_out, chosen_last_out}
use Rattle.interrupt_hook.proofs.Positions.{First, first_from_lem}
use Rattle.interrupt_hook.proofs.Moves.{around, unhooked_entries}
use Rattle.interrupt_hook.proofs.Hooking.{none_on}

every_entries : (P : Hook → Type 0) (i n : ℕ) (f : ℕ → Hook) → ((j : ℕ) → i ≤ j → j < i + n → P (f j)) → EveryHook P (hooks_from i n f)
unfolding hooks_from
every_entries P i zero f h = tt
every_entries P i (suc n) f h =
    (h i (omega arith) (omega arith), every_entries P (i + 1) n f (λ j l u. h j (omega arith) (omega arith)))

module _ (handle : ℕ) where
  abbrev Other : Hook → Type 0
  Other h = eqb h.handle handle ≡ false

  without_here : (h : Hook) (l : List Hook) → eqb h.handle handle ≡ true → without handle (h ∷ l) ≡ l
  unfolding without
  without_here h l e = rw e

  without_on : (h : Hook) (l : List Hook) → Other h → without handle (h ∷ l) ≡ h ∷ without handle l
  unfolding without
  without_on h l e = rw e

  module _ (t : Hook → Bool) where
    -- hooks of other handles before it stay
    without_front : (a l : List Hook) → EveryHook Other a → without handle (chosen t a ++ l) ≡ chosen t a ++ without handle l
    unfolding chosen
    without_front [] l o = refl
    without_front (h ∷ a) l o = by (t h) (without_front a l o.1)
      where
        by : (b : Bool) → without handle (chosen t a ++ l) ≡ chosen t a ++ without handle l
            → without handle (cond b (h ∷ chosen t a) (chosen t a) ++ l) ≡ cond b (h ∷ chosen t a) (chosen t a) ++ without handle l
        by true ih = without_on h (chosen t a ++ l) o.0 ∙ ap (λ (m : List Hook). h ∷ m) ih
        by false ih = ih

    -- where no hook of the handle passes the test, nothing goes
    without_none : (l : List Hook) → ((h : Hook) → eqb h.handle handle ≡ true → t h ≡ false) → without handle (chosen t l) ≡ chosen t l
    unfolding chosen without
    without_none [] n = refl
    without_none (h ∷ l) n = by (t h) (eqb h.handle handle) refl refl (without_none l n)
      where
        by : (b c : Bool) → t h ≡ b → eqb h.handle handle ≡ c → without handle (chosen t l) ≡ chosen t l
            → without handle (cond b (h ∷ chosen t l) (chosen t l)) ≡ cond b (h ∷ chosen t l) (chosen t l)
        by true true e f ih = absurd (true≢false (sym e ∙ n h f))
        by true false e f ih = without_on h (chosen t l) f ∙ ap (λ (m : List Hook). h ∷ m) ih
        by false c e f ih = ih

    -- a test of the handle alone may come before or after
    pub chosen_without : (l : List Hook) → ((g h : Hook) → g.handle ≡ h.handle → t g ≡ t h) → chosen t (without handle l) ≡ without handle (chosen t l)
    unfolding chosen without
    chosen_without [] alike = refl
    chosen_without (h ∷ l) alike = by (eqb h.handle handle) (t h) refl refl (chosen_without l alike)
      where
        by : (c b : Bool) → eqb h.handle handle ≡ c → t h ≡ b → chosen t (without handle l) ≡ without handle (chosen t l)
            → chosen t (cond c l (h ∷ without handle l)) ≡ without handle (cond b (h ∷ chosen t l) (chosen t l))
        by true true e p ih = sym (without_here h (chosen t l) e)
        by true false e p ih =
            sym (without_none l (λ g q. alike g h (eqb-true g.handle handle q ∙ sym (eqb-true h.handle handle e)) ∙ p))
        by false true e p ih =
            chosen_in t h (without handle l) p ∙ ap (λ (m : List Hook). h ∷ m) ih ∙ sym (without_on h (chosen t l) e)
        by false false e p ih = chosen_out t h (without handle l) p ∙ ih

    -- a test of the handle alone; x has it and none before x; z passes no test
    take_out : (a b : List Hook) (x z : Hook) → ((g h : Hook) → g.handle ≡ h.handle → t g ≡ t h) → EveryHook Other a → x.handle ≡ handle → t z ≡ false
        → chosen t (a ++ (b ++ z ∷ [])) ≡ without handle (chosen t (a ++ x ∷ b))
    take_out a b x z alike o e d =
        chosen_append t a (b ++ z ∷ [])
        ∙ rw (chosen_last_out t b z d, chosen_append t a (x ∷ b), without_front a (chosen t (x ∷ b)) o)
        (ap (λ (m : List Hook). chosen t a ++ m) (by (t x) refl))
      where
        by : (p : Bool) → t x ≡ p → chosen t b ≡ without handle (chosen t (x ∷ b))
        by true p = rw (chosen_in t x b p) (sym (without_here x (chosen t b) (eq-eqb x.handle handle e)))
        by false p = rw (chosen_out t x b p) (sym (without_none b (λ h q. alike h x (eqb-true h.handle handle q ∙ sym e) ∙ p)))

module _ (records hooks : List ℕ) (handle : ℕ) (size : length hooks ≡ functions_max * hook_size) (there : position_of hooks handle < functions_max) where
  abbrev found_first : First (λ e. eqb (hook_at hooks e).handle handle) 0 functions_max (position_of hooks handle)
  found_first = first_from_lem (λ e. eqb (hook_at hooks e).handle handle) 0 functions_max

  -- past the last entry stand zeros
  past_zero : (hook_at hooks functions_max).handle ≡ 0
  past_zero = get_or-eq_default hooks 0 (omega arith)

  pub unhooked_out : (line : ℕ) → chain_of records (unhooked hooks handle) line ≡ without handle (chain_of records hooks line)
  unhooked_out line =
      let t = on_line records line in
      let f = hook_at hooks in
      let p = position_of hooks handle in
      ap (chosen t) (unhooked_entries f p there)
      ∙ take_out handle t (hooks_from 0 p f) (hooks_from (p + 1) (15 - p) f) (f p) (f functions_max)
      (λ g h e. rw e)
      (every_entries (Other handle) 0 p f (λ j l h. found_first.before j (omega arith) (omega arith)))
      (eqb-true (f p).handle handle (found_first.here (omega arith)))
      (none_on records line (f functions_max) past_zero)
      ∙ rw (around f p there)

-- an unhook is accepted where its function is there and hooked
accepted : (good hooked : Bool) (after before : List ℕ)
    → (unhook_checks good hooked (hook_outcome successful after) (λ s. hook_outcome s before)).status ≡ successful
    → (hooked ≡ true) × ((unhook_checks good hooked (hook_outcome successful after) (λ s. hook_outcome s before)).hooks ≡ after)
accepted true true after before e = (refl, refl)
accepted true false after before e = absurd cc
accepted false hooked after before e = absurd cc

-- THEOREM: an accepted unhook takes the hook of its handle from its chain, and the others keep their order
pub goes_out : GoesOut
goes_out header records hooks handle line size s =
    let k = accepted (is_handle header handle) (is_hooked hooks handle) (unhooked hooks handle) hooks s in
    ap (λ (l : List ℕ). chain_of records l line) k.1
    ∙ unhooked_out records hooks handle size (ltb-true (position_of hooks handle) functions_max k.0) line
