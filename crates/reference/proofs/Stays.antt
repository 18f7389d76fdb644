-- Claim 3 for calls that touch hooks, used marks, cells, their own buffer, or nothing.
use Prim.Native.Nat.{ℕ, ◌+◌, ◌*◌, ◌-◌, ◌/◌}
use native.Mathlib.Omega.{arith}
use native.Mathlib.Nat.{zero-add}
use mathlib.Core.Bool.{true, false, not}
use mathlib.Core.Logic.{inr}
use mathlib.Core.Path.{◌≡◌, refl, sym, ◌∙◌}
use mathlib.Core.List.{List}
use lib.Dec.{leb, ltb, eqb}
use lib.ListN.{length}
use lib.Seq.{sets, length-sets}
use borrow.Author.Tests.{ltb-false, ne_eqb, eqb-false}
use Rattle.board.specs.Layout.{functions_max, mark_size}
use Rattle.numbers.proofs.Stores.{sets_other}
use Rattle.resource_descriptor.specs.Descriptor.{size, descriptors_bytes}
use Rattle.resource.specs.Resource.{ResourceOutcome, window_bases, descriptors, resource}
use Rattle.resource.proofs.Shows.{described_size}
use Rattle.interrupt_array.specs.Hooks.{is_routed}
use Rattle.interrupt_array.specs.declared.hooks.Hook.{Hook}
use Rattle.interrupt_hook.specs.Meaning.{is_among}
use Rattle.card_used.specs.Used.{mark_number, new_mark}
use Rattle.card_used.specs.declared.used.Mark.{Mark}
use Rattle.call.specs.declared.answer.Answer.{Answer}
use Rattle.call.specs.declared.call.Call.TheVariants.{GetResource, HookInterrupt, UnhookInterrupt, SetCardUsed}
use Rattle.call.specs.Answers.{of_status}
use Rattle.reference.specs.State.{outcome}
use Rattle.reference.specs.Reference.{Reference, ReferenceOutcome, reference_outcome, is_handle_of, with_cells_of, source_for, line_for, pin_for, with_chain_of, with_mark_of, reference_step}
use Rattle.reference.specs.Run.{parts_of}
use Rattle.reference.specs.Claims.{Touch, leaves_hooks, may_touch, EqualOutside, Framed}
use Rattle.reference.proofs.Tests.{if_test}
use Rattle.reference.proofs.Alike.{alike, touched, table_alike}
use Rattle.reference.proofs.Sound.{handle_within}

-- what the claim says of the reference machine's outcome
abbrev pub Stays : Touch → Reference → List ℕ → ReferenceOutcome → Type 0
Stays t b own r = Framed t (parts_of b) own (outcome r.answer (parts_of r.reference) r.own)

module _ (t : Touch) (b : Reference) (own : List ℕ) (r : ReferenceOutcome) (k : r.reference.records ≡ b.records) where
  -- a call that leaves the records, and so header and offsets
  pub records_left : EqualOutside t.registers (parts_of r.reference).registers (parts_of b).registers
      → (t.list ≡ false → (parts_of r.reference).windows ≡ (parts_of b).windows)
      → (leaves_hooks t.hooks ≡ true → (parts_of r.reference).hooks ≡ (parts_of b).hooks)
      → EqualOutside t.used (parts_of r.reference).used (parts_of b).used
      → EqualOutside t.cells r.reference.cells b.cells
      → EqualOutside t.own r.own own
      → Stays t b own r
  unfolding parts_of
  records_left registers list hooks used cells lent =
      record {
        header = rw k (alike _ _);
        records = λ e. rw k;
        offsets = λ e. rw k;
        registers = registers;
        list = list;
        hooks = hooks;
        used = used;
        cells = cells;
        own = lent;
      }

-- a call that leaves the board but for cells that it may touch, and of its own buffer what it may not touch
pub cells_and_own : (t : Touch) (b : Reference) (cells own out : List ℕ) (a : Answer) → EqualOutside t.cells cells b.cells → EqualOutside t.own out own
    → Stays t b own (reference_outcome a (with_cells_of cells b) out)
unfolding parts_of
cells_and_own t b cells own out a c k =
    records_left t b own (reference_outcome a (with_cells_of cells b) out) refl (alike _ _) (λ e. refl) (λ e. refl) (alike _ _) c k

pub own_only : (t : Touch) (b : Reference) (own out : List ℕ) (a : Answer) → EqualOutside t.own out own → Stays t b own (reference_outcome a b out)
own_only t b own out a k = cells_and_own t b b.cells own out a (alike t.cells b.cells) k

pub keeps : (t : Touch) (b : Reference) (own : List ℕ) (a : Answer) → Stays t b own (reference_outcome a b own)
keeps t b own a = own_only t b own own a (alike t.own own)

-- a call that leaves the board but for a chain
chain_only : (t : Touch) (b : Reference) (own : List ℕ) (a : Answer) (line : ℕ) (chain : List Hook) → leaves_hooks t.hooks ≡ false
    → Stays t b own (reference_outcome a (with_chain_of line chain b) own)
unfolding parts_of
chain_only t b own a line chain h =
    records_left t b own (reference_outcome a (with_chain_of line chain b) own) refl (alike _ _) (λ e. refl) (λ e. touched (sym e ∙ h)) (alike _ _) (alike _ _)
    (alike _ own)

module _ (b : Reference) (own : List ℕ) where
  -- descriptors stand at the front of the buffer
  front : (handle : ℕ) → EqualOutside (λ i. ltb i (size * length (window_bases (source_for b handle).exponent))) (sets own 0 (descriptors_bytes (descriptors (source_for b handle)))) own
  front handle =
      let v = descriptors_bytes (descriptors (source_for b handle)) in
      record {
        room = length-sets own 0 v;
        same = λ i u. sets_other own 0 v i (inr (rw (zero-add (length v), described_size (source_for b handle) (window_bases (source_for b handle).exponent)) (ltb-false i _ u)));
      }

  pub stays_resource : (handle : ℕ) → Stays (may_touch b (GetResource handle) own) b own (reference_step b (GetResource handle) own)
  unfolding may_touch reference_step resource
  stays_resource handle =
      let t = may_touch b (GetResource handle) own in
      let P : ResourceOutcome → Type 0 = λ g. Stays t b own (reference_outcome (of_status g.status) b g.out) in
      let n = length (window_bases (source_for b handle).exponent) in
      if_test P (is_handle_of b handle)
      (λ g.
      if_test P (eqb n 0) (λ z. keeps t b own _)
      (λ z. if_test P (ltb (length own) (size * n)) (λ s. keeps t b own _) (λ s. own_only t b own _ _ (front handle))))
      (λ g. keeps t b own _)

  pub stays_hook : (handle handler parameter : ℕ)
      → (let c = HookInterrupt handle handler parameter in Stays (may_touch b c own) b own (reference_step b c own))
  unfolding may_touch reference_step
  stays_hook handle handler parameter =
      let t = may_touch b (HookInterrupt handle handler parameter) own in
      let line = line_for b handle in
      if_test (Stays t b own) (is_handle_of b handle)
      (λ g.
      if_test (Stays t b own) (is_routed (pin_for b handle) line)
      (λ r. if_test (Stays t b own) (not (is_among handle (b.chains line))) (λ f. chain_only t b own _ line _ refl) (λ f. keeps t b own _))
      (λ r. keeps t b own _))
      (λ g. keeps t b own _)

  pub stays_unhook : (handle : ℕ) → Stays (may_touch b (UnhookInterrupt handle) own) b own (reference_step b (UnhookInterrupt handle) own)
  unfolding may_touch reference_step
  stays_unhook handle =
      let t = may_touch b (UnhookInterrupt handle) own in
      let line = line_for b handle in
      if_test (Stays t b own) (is_handle_of b handle)
      (λ g. if_test (Stays t b own) (is_among handle (b.chains line)) (λ f. chain_only t b own _ line _ refl) (λ f. keeps t b own _))
      (λ g. keeps t b own _)

  -- every mark but the handle's
  mark_only : (handle : ℕ) (m : Mark) → is_handle_of b handle ≡ true
      → EqualOutside (λ j. eqb (j / mark_size + 1) handle) (parts_of (with_mark_of (handle - 1) m b)).used (parts_of b).used
  unfolding parts_of
  mark_only handle m g =
      let k = (handle_within b handle g).0 in
      table_alike (λ j. eqb (j / mark_size + 1) handle) (functions_max * mark_size) (mark_number (with_mark_of (handle - 1) m b).used) (mark_number b.used)
      (λ j u. let n = eqb-false (j / mark_size + 1) handle u in rw (ne_eqb (j / mark_size) (handle - 1) (λ z. n (omega arith))))

  pub stays_used : (handle status call_back : ℕ)
      → (let c = SetCardUsed handle status call_back in Stays (may_touch b c own) b own (reference_step b c own))
  unfolding may_touch reference_step parts_of
  stays_used handle status call_back =
      let t = may_touch b (SetCardUsed handle status call_back) own in
      if_test (Stays t b own) (is_handle_of b handle)
      (λ g.
      if_test (Stays t b own) (leb status 3)
      (λ e.
      records_left t b own (reference_outcome _ (with_mark_of (handle - 1) (new_mark status call_back) b) own) refl (alike _ _) (λ u. refl) (λ u. refl) (mark_only handle _ g) (alike _ _)
      (alike _ own))
      (λ e. keeps t b own _))
      (λ g. keeps t b own _)
