-- The chain of a line is the hooked functions of that line in hooking order.
use Prim.Native.Nat.{ℕ, ◌*◌}
use native.Mathlib.Omega.{arith}
use mathlib.Core.Bool.{Bool, true, false, cond}
use mathlib.Core.List.{List, [], ◌∷◌, ◌++◌, append-nil}
use mathlib.Core.Logic.{◌⊎◌, inl, inr, ⊎_elim}
use mathlib.Core.Path.{◌≡◌, refl, sym, ◌∙◌, ap}
use lib.Dec.{eqb}
use lib.ListN.{length}
use Rattle.board.specs.Handles.{is_handle}
use Rattle.board.specs.Layout.{functions_max, hook_size}
use Rattle.board.specs.Statuses.{number_of, successful}
use Rattle.board.proofs.Handles.{handle_place}
use Rattle.numbers.proofs.Tables.{table_length}
use Rattle.interrupt_array.specs.declared.hooks.Hook.{Hook}
use Rattle.interrupt_array.specs.Hooks.{hooks_from, chosen, on_line, chain_of, line_of, pin_of, is_routed}
use Rattle.interrupt_hook.specs.Chain.{HookOutcome, hook_outcome, is_hooked, is_free, hooked, unhooked, hook_checks, unhook_checks}
use Rattle.interrupt_hook.specs.Meaning.{without, HookCall, performed, hooking, unhooking, cleared, is_done, taken, array_after, in_order, HookingOrder}
use Rattle.interrupt_hook.proofs.Entries.{chosen_append, chosen_in, chosen_out}
use Rattle.interrupt_hook.proofs.Hooking.{new_on, accepted, goes_last}
use Rattle.interrupt_hook.proofs.Unhooking.{chosen_without, goes_out}

-- a call is accepted, or leaves the array
abbrev Outcome : HookOutcome → List ℕ → Type 0
Outcome c before = ((is_done (number_of c.status) ≡ true) × (c.status ≡ successful)) ⊎ ((is_done (number_of c.status) ≡ false) × (c.hooks ≡ before))

hook_outcome_lem : (good routed free : Bool) (after before : List ℕ)
    → Outcome (hook_checks good routed free (hook_outcome successful after) (λ s. hook_outcome s before)) before
hook_outcome_lem true true true after before = inl (refl, refl)
hook_outcome_lem true true false after before = inr (refl, refl)
hook_outcome_lem true false free after before = inr (refl, refl)
hook_outcome_lem false routed free after before = inr (refl, refl)

unhook_outcome : (good there : Bool) (after before : List ℕ)
    → Outcome (unhook_checks good there (hook_outcome successful after) (λ s. hook_outcome s before)) before
unhook_outcome true true after before = inl (refl, refl)
unhook_outcome true false after before = inr (refl, refl)
unhook_outcome false there after before = inr (refl, refl)

module _ (header records : List ℕ) where
  -- the array's chains are those of the hooks in hooking order
  pub record Stands (hooks : List ℕ) (hs : List Hook) : Type 0 where
    pub size : length hooks ≡ functions_max * hook_size
    pub chains : (line : ℕ) → chain_of records hooks line ≡ chosen (on_line records line) hs

  -- a hook more at the end
  one_more : (line : ℕ) (hs : List Hook) (h : Hook) (chain : List Hook) → (h.handle ≡ 0 → ⊥) → chain ≡ chosen (on_line records line) hs
      → cond (eqb line (line_of records h.handle)) (chain ++ h ∷ []) chain ≡ chosen (on_line records line) (hs ++ h ∷ [])
  unfolding chosen
  one_more line hs h chain n e =
      rw (← new_on records line h n, e) (by (on_line records line h) refl) ∙ sym (chosen_append (on_line records line) hs (h ∷ []))
    where
      by : (b : Bool) → on_line records line h ≡ b
          → cond b (chosen (on_line records line) hs ++ h ∷ []) (chosen (on_line records line) hs)
          ≡ chosen (on_line records line) hs ++ chosen (on_line records line) (h ∷ [])
      by true p = rw (chosen_in (on_line records line) h [] p)
      by false p = rw (chosen_out (on_line records line) h [] p, append-nil (chosen (on_line records line) hs))

  -- what a call leaves stands as the hooks do after it
  hook_stands : (hooks : List ℕ) (hs : List Hook) (h : Hook) → Stands hooks hs
      → (performed header records hooks (hooking h)).status ≡ successful → Stands (performed header records hooks (hooking h)).hooks (taken (hooking h) hs)
  hook_stands hooks hs h s e =
      let k = accepted (is_handle header h.handle) (is_routed (pin_of records h.handle) (line_of records h.handle)) (is_free hooks h.handle) (hooked records hooks h) hooks e in
      record {
        size = ap length k.1.1 ∙ table_length _ _ _;
        chains = λ line.
            goes_last header records hooks h.handle h.handler h.parameter line e
            ∙ one_more line hs h (chain_of records hooks line) (λ z. omega (arith, (handle_place header h.handle k.0).0)) (s.chains line);
      }

  unhook_stands : (hooks : List ℕ) (hs : List Hook) (handle : ℕ) → Stands hooks hs
      → (performed header records hooks (unhooking handle)).status ≡ successful
      → Stands (performed header records hooks (unhooking handle)).hooks (taken (unhooking handle) hs)
  unhook_stands hooks hs handle s e =
      record {
        size = unhook_size (is_handle header handle) (is_hooked hooks handle);
        chains = λ line.
            goes_out header records hooks handle line s.size e
            ∙ ap (without handle) (s.chains line)
            ∙ sym (chosen_without handle (on_line records line) hs (λ g h z. rw z));
      }
    where
      unhook_size : (good there : Bool)
          → length (unhook_checks good there (hook_outcome successful (unhooked hooks handle)) (λ s. hook_outcome s hooks)).hooks ≡ functions_max * hook_size
      unhook_size true true = table_length _ _ _
      unhook_size true false = s.size
      unhook_size false there = s.size

  step_stands : (hooks : List ℕ) (hs : List Hook) (c : HookCall) → Stands hooks hs
      → Stands (performed header records hooks c).hooks (cond (is_done (number_of (performed header records hooks c).status)) (taken c hs) hs)
  step_stands hooks hs (hooking h) s =
      ⊎_elim (λ d. rw d.0 (hook_stands hooks hs h s d.1)) (λ d. rw (d.0, d.1) s)
      (hook_outcome_lem (is_handle header h.handle) (is_routed (pin_of records h.handle) (line_of records h.handle)) (is_free hooks h.handle) (hooked records hooks h) hooks)
  step_stands hooks hs (unhooking handle) s =
      ⊎_elim (λ d. rw d.0 (unhook_stands hooks hs handle s d.1)) (λ d. rw (d.0, d.1) s)
      (unhook_outcome (is_handle header handle) (is_hooked hooks handle) (unhooked hooks handle) hooks)

  all_stand : (cs : List HookCall) (hooks : List ℕ) (hs : List Hook) → Stands hooks hs → Stands (array_after header records hooks cs) (in_order header records hooks cs hs)
  unfolding array_after in_order
  all_stand [] hooks hs s = s
  all_stand (c ∷ cs) hooks hs s = all_stand cs (performed header records hooks c).hooks _ (step_stands hooks hs c s)

  none_stand : Stands cleared []
  unfolding chosen hooks_from
  none_stand = record { size = refl; chains = λ line. refl }

-- THEOREM: the chain of a line is the hooked functions of that line in hooking order
pub hooking_order : HookingOrder
hooking_order header records cs line = (all_stand header records cs cleared [] (none_stand header records)).chains line
