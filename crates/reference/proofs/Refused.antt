-- Claim 1 for resource, hooks and set used.
use Prim.Native.Nat.{ℕ, ◌*◌}
use mathlib.Core.Bool.{true, false, false≢true}
use mathlib.Core.Logic.{inl, inr}
use mathlib.Core.Path.{◌≡◌, refl}
use mathlib.Core.List.{List}
use lib.Dec.{eqb, leb, ltb}
use lib.ListN.{length}
use Rattle.board.specs.Parts.{Parts, with_hooks, with_used}
use Rattle.board.specs.Handles.{is_handle}
use Rattle.resource_descriptor.specs.Descriptor.{size}
use Rattle.resource.specs.Resource.{ResourceOutcome, window_bases, resource, source_of}
use Rattle.interrupt_array.specs.Hooks.{line_of, pin_of, is_routed}
use Rattle.interrupt_hook.specs.Chain.{HookOutcome, is_hooked, is_free}
use Rattle.card_used.specs.Used.{MarkOutcome}
use Rattle.call.specs.declared.answer.Answer.{Answer}
use Rattle.call.specs.declared.call.Call.{Call}
use Rattle.call.specs.declared.call.Call.TheVariants.{GetResource, HookInterrupt, UnhookInterrupt, SetCardUsed}
use Rattle.call.specs.Answers.{of_status}
use Rattle.reference.specs.State.{Outcome, outcome, step, hook_on, unhook_on}
use Rattle.reference.specs.Claims.{Among, refusals, Filler, Untouched}
use Rattle.reference.proofs.Tests.{if_test}

-- what the claim says of one outcome
abbrev pub Kept : Parts → Call → List ℕ → Outcome → Type 0
Kept p c own n = n.answer.refused ≡ true → Untouched p c own n

-- an accepted call is not refused
pub not_refused : {A : Type 0} → false ≡ true → A
not_refused e = absurd (false≢true e)

-- a refused call gives a stated number and the filler, and leaves the parts and its own buffer
pub untouched : {p : Parts} {c : Call} {own : List ℕ} {a : Answer} → Among a.number (refusals c) → Filler c a → Untouched p c own (outcome a p own)
untouched n f = record { number = n; filler = f; parts = refl; own = refl }

module _ (p : Parts) (own : List ℕ) where
  pub kept_resource : (handle : ℕ) → Kept p (GetResource handle) own (step p (GetResource handle) own)
  unfolding step resource
  kept_resource handle =
      let P : ResourceOutcome → Type 0 = λ g. Kept p (GetResource handle) own (outcome (of_status g.status) p g.out) in
      let n = length (window_bases (source_of p.records p.registers p.windows handle).exponent) in
      if_test P (is_handle p.header handle)
      (λ g.
      if_test P (eqb n 0) (λ z f. untouched (inr (inl refl)) refl)
      (λ z.
      if_test P (ltb (length own) (size * n)) (λ t f. untouched (inr (inr (inl refl))) refl)
      (λ t f. not_refused f)))
      (λ g f. untouched (inl refl) refl)

  pub kept_hook : (handle handler parameter : ℕ)
      → Kept p (HookInterrupt handle handler parameter) own (hook_on p handle handler parameter own)
  kept_hook handle handler parameter =
      let P : HookOutcome → Type 0 =
      λ w. Kept p (HookInterrupt handle handler parameter) own (outcome (of_status w.status) (with_hooks w.hooks p) own) in
      if_test P (is_handle p.header handle)
      (λ g.
      if_test P (is_routed (pin_of p.records handle) (line_of p.records handle))
      (λ r.
      if_test P (is_free p.hooks handle) (λ t f. not_refused f)
      (λ t f. untouched (inr (inr (inl refl))) refl))
      (λ r f. untouched (inr (inl refl)) refl))
      (λ g f. untouched (inl refl) refl)

  pub kept_unhook : (handle : ℕ) → Kept p (UnhookInterrupt handle) own (unhook_on p handle own)
  kept_unhook handle =
      let P : HookOutcome → Type 0 = λ w. Kept p (UnhookInterrupt handle) own (outcome (of_status w.status) (with_hooks w.hooks p) own) in
      if_test P (is_handle p.header handle)
      (λ g.
      if_test P (is_hooked p.hooks handle) (λ t f. not_refused f)
      (λ t f. untouched (inr (inl refl)) refl))
      (λ g f. untouched (inl refl) refl)

  pub kept_set_used : (handle status call_back : ℕ)
      → Kept p (SetCardUsed handle status call_back) own (step p (SetCardUsed handle status call_back) own)
  unfolding step
  kept_set_used handle status call_back =
      let P : MarkOutcome → Type 0 = λ w. Kept p (SetCardUsed handle status call_back) own (outcome (of_status w.status) (with_used w.used p) own) in
      if_test P (is_handle p.header handle)
      (λ g.
      if_test P (leb status 3) (λ t f. not_refused f)
      (λ t f. untouched (inr (inl refl)) refl))
      (λ g f. untouched (inl refl) refl)
