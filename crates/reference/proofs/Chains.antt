-- For claim 2: the simulation of hooks and chains.
use Prim.Native.Nat.{ℕ, ◌-◌}
use native.Mathlib.Omega.{arith}
use mathlib.Core.List.{List, [], ◌∷◌, ◌++◌}
use mathlib.Core.Path.{◌≡◌, refl, ◌∙◌, ap}
use lib.Dec.{leb, ltb}
use borrow.Author.Tests.{leb-true, ltb-false, not-true}
use Rattle.board.specs.Parts.{with_hooks}
use Rattle.numbers.proofs.Tests.{both_true}
use Rattle.interrupt_array.specs.Hooks.{hook, line_of, pin_of, last_line, is_routed, chain_of, packed}
use Rattle.interrupt_array.specs.declared.hooks.Hook.{Hook}
use Rattle.interrupt_hook.specs.Chain.{HookOutcome}
use Rattle.interrupt_list.specs.Listing.{listed_hook, chain_listing, chain_number_of, chain_values_of}
use Rattle.interrupt_hook.specs.Meaning.{without}
use Rattle.board.specs.declared.status.CallRefusal.{CallRefusal}
use Rattle.std.specs.Prelude.{Result}
use Rattle.interrupt_list.proofs.Listings.{chain_number_lem, chain_values_lem}
use Rattle.interrupt_hook.proofs.Room.{without_once}
use Rattle.call.specs.declared.answer.Answer.{Answer}
use Rattle.call.specs.declared.call.Query.TheVariants.{ListChain}
use Rattle.call.specs.Answers.{of_status, of_chain}
use Rattle.reference.specs.State.{outcome, hook_on, unhook_on, queried}
use Rattle.reference.specs.Reference.{Reference, ReferenceOutcome, reference_outcome, line_for, pin_for, with_chain_of, hook_of, unhook_of, reference_queried}
use Rattle.reference.specs.Run.{parts_of}
use Rattle.reference.proofs.Tests.{if_both, if_alike}
use Rattle.reference.proofs.Registers.{kept_byte}
use Rattle.reference.proofs.Among.{every_without, packed_without}
use Rattle.reference.proofs.Lines.{all_lines}
use Rattle.reference.proofs.Chained.{On, Chained, among_lines, without_lines, chained_changed, chained_hook}
use Rattle.reference.proofs.Sound.{Sound, sound_with, Same, Answered, as_outcome, handle_same, handle_within}
use Rattle.reference.proofs.HookArray.{lent_records, line_kept, few, hooked_same, room, free_same, hook_lines, chain_same}

module _ (b : Reference) (s : Sound b) where
  -- another chain on a line, and the array that holds it
  chain_outcome : {a : Answer} {own hooks : List ℕ} (line : ℕ) (chain : List Hook) → hooks ≡ packed (all_lines (with_chain_of line chain b).chains)
      → Chained b.records (with_chain_of line chain b).chains → Same (outcome a (with_hooks hooks (parts_of b)) own) (reference_outcome a (with_chain_of line chain b) own)
  unfolding parts_of
  chain_outcome line chain e k =
      record {
        answer = refl;
        parts = ap (λ (l : List ℕ). with_hooks l (parts_of b)) e;
        own = refl;
        sound = sound_with s (omega arith) k;
      }

  -- what a call that changes the hooks leaves, beside what the reference machine says
  abbrev Changes : List ℕ → HookOutcome → ReferenceOutcome → Type 0
  Changes own w t = Same (outcome (of_status w.status) (with_hooks w.hooks (parts_of b)) own) t

  pub same_hook : (handle handler parameter : ℕ) (own : List ℕ) → Same (hook_on (parts_of b) handle handler parameter own) (hook_of b handle handler parameter own)
  unfolding parts_of
  same_hook handle handler parameter own =
      let line = line_for b handle in
      let pin-kept : pin_of (lent_records b) handle ≡ pin_for b handle = kept_byte b.records s.kept.sized (handle - 1) 0x3D (omega arith) in
      let routed-same : is_routed (pin_of (lent_records b) handle) (line_of (lent_records b) handle) ≡ is_routed (pin_for b handle) line =
      rw (pin-kept, line_kept b s handle) in
      if_alike (Changes own) (handle_same b s handle)
      (λ g.
      let k = handle_within b handle g in
      if_alike (Changes own) routed-same
      (λ r.
      let last = leb-true line last_line (both_true (leb 1 (pin_for b handle)) (leb line last_line) r).1 in
      if_alike (Changes own) (free_same b s handle k.0 k.1)
      (λ f.
      let e = not-true _ f in
      chain_outcome line (b.chains line ++ hook handle handler parameter ∷ []) (hook_lines b s handle handler parameter last (room b s handle k.0 k.1 e))
      (chained_hook b.records b.chains s.chained handle handler parameter k.0 k.1 last e))
      (λ f. as_outcome b s))
      (λ r. as_outcome b s))
      (λ g. as_outcome b s)

  pub same_unhook : (handle : ℕ) (own : List ℕ) → Same (unhook_on (parts_of b) handle own) (unhook_of b handle own)
  unfolding parts_of
  same_unhook handle own =
      let line = line_for b handle in
      if_alike (Changes own) (handle_same b s handle)
      (λ g.
      if_alike (Changes own) (hooked_same b s handle (handle_within b handle g).0)
      (λ e.
      chain_outcome line (without handle (b.chains line))
      (packed_without handle (all_lines b.chains) (few b s) (among_lines b.records b.chains s.chained handle ∙ e) ∙ ap packed (without_lines b.records b.chains s.chained handle e))
      (chained_changed b.records b.chains s.chained line (without handle (b.chains line)) (every_without (On b.records line) handle (b.chains line) (s.chained.each line))
      (without_once handle (b.chains line) (s.chained.once line))))
      (λ e. as_outcome b s))
      (λ g. as_outcome b s)

  pub same_list_chain : (line index : ℕ) → Answered b (ListChain line index)
  unfolding queried reference_queried parts_of
  same_list_chain line index =
      let given : chain_listing (chain_of (lent_records b) (packed (all_lines b.chains)) line) line index ≡ chain_listing (b.chains line) line index =
      if_both (λ (x y : Result Hook CallRefusal). x ≡ y) (ltb last_line line) (λ e. refl) (λ e. ap (λ (c : List Hook). listed_hook c index) (chain_same b s line (ltb-false last_line line e))) in
      ap (λ (l : Result Hook CallRefusal). of_chain (chain_number_of l) (chain_values_of l)) given
      ∙ rw (chain_number_lem (b.chains line) line index, chain_values_lem (b.chains line) line index)
