-- An accepted hook goes last on its line.
use Prim.Native.Nat.{ℕ, ◌+◌, ◌-◌, ◌<◌}
use native.Mathlib.Omega.{arith}
use mathlib.Core.Bool.{Bool, true, false, cond, ◌&&◌, not, true≢false}
use mathlib.Core.List.{List, [], ◌∷◌, ◌++◌, append-nil}
use mathlib.Core.Path.{◌≡◌, refl, sym, ◌∙◌, ap}
use lib.Dec.{eqb, leb}
use borrow.Author.Tests.{eq-eqb, ne_eqb, eqb-true, eqb-false, le-leb}
use Rattle.board.specs.Handles.{is_handle}
use Rattle.board.specs.Layout.{functions_max}
use Rattle.board.specs.Statuses.{successful}
use Rattle.board.proofs.Handles.{handle_place}
use Rattle.numbers.proofs.Tests.{both_true}
use Rattle.interrupt_array.specs.declared.hooks.Hook.{Hook}
use Rattle.interrupt_array.specs.Hooks.{hook, is_hook, hook_at, hooks_from, chosen, on_line, chain_of, line_of, pin_of, is_routed}
use Rattle.interrupt_hook.specs.Chain.{up_to_line, position_for, is_hooked, is_free, hooked, hook_outcome, hook_checks}
use Rattle.interrupt_hook.specs.Meaning.{GoesLast}
use Rattle.interrupt_hook.proofs.Entries.{chosen_append, chosen_none, chosen_in, chosen_out, chosen_last_out}
use Rattle.interrupt_hook.proofs.Positions.{Last, past_last_lem}
use Rattle.interrupt_hook.proofs.Moves.{but_last, hooked_entries}

-- equality is tested either way round
same_test : (a b : ℕ) → eqb a b ≡ eqb b a
same_test a b = by (eqb b a) refl
  where
    by : (t : Bool) → eqb b a ≡ t → eqb a b ≡ t
    by true e = eq-eqb a b (sym (eqb-true b a e))
    by false e = ne_eqb a b (λ z. eqb-false b a e (sym z))

-- of a hook between two lists, the second of which has no more on its line, it is the last there; x is on no line
put_last_lem : (t : Hook → Bool) (a b : List Hook) (new x : Hook) → t x ≡ false → (t new ≡ true → chosen t b ≡ [])
    → chosen t (a ++ new ∷ b) ≡ cond (t new) (chosen t (a ++ (b ++ x ∷ [])) ++ new ∷ []) (chosen t (a ++ (b ++ x ∷ [])))
put_last_lem t a b new x d none =
    chosen_append t a (new ∷ b) ∙ rw (chosen_append t a (b ++ x ∷ []), chosen_last_out t b x d) (by (t new) refl)
  where
    by : (p : Bool) → t new ≡ p
        → chosen t a ++ chosen t (new ∷ b) ≡ cond p (chosen t a ++ chosen t b ++ new ∷ []) (chosen t a ++ chosen t b)
    by true e = rw (chosen_in t new b e, none e, append-nil (chosen t a))
    by false e = rw (chosen_out t new b e)

module _ (records : List ℕ) where
  -- what has no handle is no hook
  pub none_on : (line : ℕ) (h : Hook) → h.handle ≡ 0 → on_line records line h ≡ false
  none_on line h z = rw (eq-eqb h.handle 0 z)

  -- what has one is on its function's line
  pub new_on : (line : ℕ) (new : Hook) → (new.handle ≡ 0 → ⊥) → on_line records line new ≡ eqb line (line_of records new.handle)
  new_on line new n = rw (ne_eqb new.handle 0 n) (same_test (line_of records new.handle) line)

  none_up_to : (line : ℕ) (h : Hook) → h.handle ≡ 0 → up_to_line records line h ≡ false
  none_up_to line h z = rw (eq-eqb h.handle 0 z)

  -- what is on no line up to a line is not on it
  not_on : (line : ℕ) (h : Hook) → up_to_line records line h ≡ false → on_line records line h ≡ false
  not_on line h = by (is_hook h) (leb (line_of records h.handle) line) refl
    where
      by : (b c : Bool) → leb (line_of records h.handle) line ≡ c → (b && c) ≡ false → (b && eqb (line_of records h.handle) line) ≡ false
      by true true e f = absurd (true≢false f)
      by true false e f = ne_eqb _ _ (λ (z : line_of records h.handle ≡ line). true≢false (sym (le-leb (line_of records h.handle) line (omega arith)) ∙ e))
      by false c e f = refl

  module _ (hooks : List ℕ) (new : Hook) (free : (hook_at hooks 15).handle ≡ 0) where
    abbrev own : ℕ
    own = line_of records new.handle

    abbrev position : ℕ
    position = position_for records hooks own

    found_last : Last (λ e. up_to_line records own (hook_at hooks e)) functions_max position
    found_last = past_last_lem (λ e. up_to_line records own (hook_at hooks e)) functions_max

    -- the last entry being free, the position is not past it
    position_room : position < functions_max
    position_room =
        let full : position ≡ 16 → ⊥ =
        λ z. true≢false (sym (rw z at (found_last.here (omega arith))) ∙ none_up_to own (hook_at hooks 15) free) in
        omega (arith, found_last.room)

    rest_none : (line : ℕ) → own ≡ line → chosen (on_line records line) (hooks_from position (15 - position) (hook_at hooks)) ≡ []
    rest_none line e =
        chosen_none (on_line records line) position (15 - position) (hook_at hooks)
        (λ j h. not_on line (hook_at hooks (position + j)) (rw (← e) (found_last.after (position + j) (omega arith) (omega arith))))

    pub hooked_last : (line : ℕ) → (new.handle ≡ 0 → ⊥)
        → chain_of records (hooked records hooks new) line
        ≡ cond (eqb line own) (chain_of records hooks line ++ new ∷ []) (chain_of records hooks line)
    hooked_last line n =
        let t = on_line records line in
        ap (chosen t) (hooked_entries (hook_at hooks) position new position_room)
        ∙ put_last_lem t (hooks_from 0 position (hook_at hooks)) (hooks_from position (15 - position) (hook_at hooks)) new (hook_at hooks 15) (none_on line (hook_at hooks 15) free)
        (λ e. rest_none line (sym (eqb-true line own (sym (new_on line new n) ∙ e))))
        ∙ rw (new_on line new n, ← but_last (hook_at hooks) position position_room)

-- a hook is accepted where its function is there and no check fails
pub accepted : (good routed free : Bool) (after before : List ℕ)
    → (hook_checks good routed free (hook_outcome successful after) (λ s. hook_outcome s before)).status ≡ successful
    → (good ≡ true) × ((free ≡ true) × ((hook_checks good routed free (hook_outcome successful after) (λ s. hook_outcome s before)).hooks ≡ after))
accepted true true true after before e = (refl, (refl, refl))
accepted true true false after before e = absurd cc
accepted true false free after before e = absurd cc
accepted false routed free after before e = absurd cc

-- THEOREM: an accepted hook goes last on its line, and every other chain stays
pub goes_last : GoesLast
goes_last header records hooks handle handler parameter line s =
    let k = accepted (is_handle header handle) (is_routed (pin_of records handle) (line_of records handle)) (is_free hooks handle) (hooked records hooks (hook handle handler parameter)) hooks s in
    let free = both_true (not (is_hooked hooks handle)) _ k.1.0 in
    ap (λ (l : List ℕ). chain_of records l line) k.1.1
    ∙ hooked_last records hooks (hook handle handler parameter) (eqb-true _ 0 free.1) line (λ z. omega (arith, (handle_place header handle k.0).0))
