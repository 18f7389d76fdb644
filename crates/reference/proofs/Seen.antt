-- For claim 4: a call that is not struck out is answered the same on like states, and leaves like
-- states.
use Prim.Native.Nat.{ℕ, ◌-◌, ◌≤◌}
use mathlib.Core.Bool.{false, not}
use mathlib.Core.Path.{◌≡◌, refl}
use mathlib.Core.List.{List}
use lib.Dec.{eqb, leb, ltb}
use lib.ListN.{length}
use borrow.Author.Tests.{eqb-false}
use Rattle.board.specs.Layout.{functions_max}
use Rattle.numbers.specs.Numbers.{bytes}
use Rattle.board.specs.declared.status.CallRefusal.{CallRefusal}
use Rattle.std.specs.Prelude.{Result, Ok, Err}
use Rattle.data_access.specs.Data.{read_at, fast_read_at}
use Rattle.board.specs.Spaces.{space_number}
use Rattle.data_window.specs.Find.{Finding}
use Rattle.data_cells.specs.Cells.{CellTarget}
use Rattle.interrupt_array.specs.Hooks.{is_routed}
use Rattle.interrupt_array.specs.declared.hooks.Hook.{Hook}
use Rattle.interrupt_hook.specs.Meaning.{is_among}
use Rattle.card_used.specs.declared.used.Mark.{Mark}
use Rattle.cell_layout.specs.Cells.{total}
use Rattle.image_refusals.specs.Refusals.{is_accepted}
use Rattle.image_layout.specs.Image.{image_size}
use Rattle.call.specs.declared.answer.Answer.{Answer}
use Rattle.call.specs.declared.call.Call.{Call}
use Rattle.call.specs.declared.call.Access.TheVariants.{Read, FastRead, Write}
use Rattle.call.specs.declared.call.Call.TheVariants.{Load, Reset, WriteImage, Config, Data, GetResource, HookInterrupt, UnhookInterrupt, SetCardUsed, Ask}
use Rattle.reference.specs.Reference.{Reference, ReferenceOutcome, reference_outcome, exponent_of, fresh, image_records, image_verdict, is_handle_of, target_of, with_cells_of, line_for, pin_for, with_chain_of, with_mark_of, cell_target_at, cell_target_for, write_of, write_data_of, reference_step}
use Rattle.reference.specs.Claims.{struck_out}
use Rattle.reference.proofs.Tests.{if_both}
use Rattle.reference.proofs.Same.{accepted_whole}
use Rattle.reference.proofs.InSlot.{in_slot}
use Rattle.reference.proofs.Like.{Like, by_cells, others_written, others_zeroed, value_same}
use Rattle.reference.proofs.Quiet.{Lies}

-- equal answers and own buffers, and like states
pub record Both (h : ℕ) (t u : ReferenceOutcome) : Type 0 where
  pub answer : t.answer ≡ u.answer
  pub own : t.own ≡ u.own
  pub like : Like h t.reference u.reference

both_outcomes : {h : ℕ} {b d : Reference} {a : Answer} {own : List ℕ} → Like h b d → Both h (reference_outcome a b own) (reference_outcome a d own)
both_outcomes l = record { answer = refl; own = refl; like = l }

-- a state, and the same with the cells m
module _ {h : ℕ} (b : Reference) (m : List ℕ) (l : Like h b (with_cells_of m b)) (own : List ℕ) where
  abbrev Seen : Call → Type 0
  Seen c = Both h (reference_step b c own) (reference_step (with_cells_of m b) c own)

  renewed : (rs : List (List ℕ)) → length rs ≤ functions_max → Like h (fresh rs b.cells) (fresh rs m)
  renewed rs f = record { few = f; rest = refl; others = others_zeroed rs b.cells m f l.others.room }

  seen_load : Seen Load
  unfolding reference_step
  seen_load =
      let room = length b.cells in
      rw (← l.others.room)
      (if_both (Both h) (is_accepted (image_verdict own room))
      (λ e. both_outcomes (renewed (image_records own) (accepted_whole own room e).kept.few))
      (λ e. both_outcomes l))

  seen_reset : Seen Reset
  unfolding reference_step
  seen_reset =
      rw (← l.others.room)
      (if_both (Both h) (ltb (length b.cells) (total (exponent_of b.records))) (λ e. both_outcomes l) (λ e. both_outcomes (renewed b.records l.few)))

  seen_image : Seen WriteImage
  unfolding reference_step
  seen_image =
      if_both (Both h) (ltb (length own) (image_size (length b.records))) (λ e. both_outcomes l)
      (λ e. if_both (Both h) (eqb (length b.records) 0) (λ z. both_outcomes l) (λ z. both_outcomes l))

  seen_config : (w register value : ℕ) (t : Result ℕ CallRefusal) → Both h (write_of b w register value own t) (write_of (with_cells_of m b) w register value own t)
  seen_config w register value (Ok i) = both_outcomes (record { few = l.few; rest = refl; others = l.others })
  seen_config w register value (Err r) = both_outcomes l

  -- where a finding leads does not depend on what the cells hold
  target_same : (w handle : ℕ) (f : Finding) → cell_target_at (with_cells_of m b) w handle f ≡ cell_target_at b w handle f
  unfolding cell_target_at
  target_same w handle (Ok f) = refl
  target_same w handle (Err r) = refl

  -- a read and a fast read through another handle
  reads : (w handle : ℕ) → (handle ≡ h → ⊥) → (p : CellTarget) → Lies b w handle p
      → (read_at w b.cells p ≡ read_at w m p) × (fast_read_at w b.cells p ≡ fast_read_at w m p)
  reads w handle n (Ok c) s =
      let v = value_same b b.cells m l.others w handle c.at c.order (s c refl) n in (rw v, rw v)
  reads w handle n (Err r) s = (refl, refl)

  seen_write : (w value : ℕ) (p : CellTarget) → Both h (write_data_of b w value own p) (write_data_of (with_cells_of m b) w value own p)
  seen_write w value (Ok c) =
      both_outcomes (record { few = l.few; rest = refl; others = others_written b.records b.cells m c.order w c.at value l.others })
  seen_write w value (Err r) = both_outcomes l

  -- another chain or mark in both
  like_chain : (line : ℕ) (chain : List Hook) → Like h (with_chain_of line chain b) (with_chain_of line chain (with_cells_of m b))
  like_chain line chain = record { few = l.few; rest = refl; others = l.others }

  like_mark : (i : ℕ) (k : Mark) → Like h (with_mark_of i k b) (with_mark_of i k (with_cells_of m b))
  like_mark i k = record { few = l.few; rest = refl; others = l.others }

  seen_hook : (handle handler parameter : ℕ) → Seen (HookInterrupt handle handler parameter)
  unfolding reference_step
  seen_hook handle handler parameter =
      let line = line_for b handle in
      if_both (Both h) (is_handle_of b handle)
      (λ g.
      if_both (Both h) (is_routed (pin_for b handle) line)
      (λ r. if_both (Both h) (not (is_among handle (b.chains line))) (λ f. both_outcomes (like_chain line _)) (λ f. both_outcomes l)) (λ r. both_outcomes l))
      (λ g. both_outcomes l)

  seen_unhook : (handle : ℕ) → Seen (UnhookInterrupt handle)
  unfolding reference_step
  seen_unhook handle =
      let line = line_for b handle in
      if_both (Both h) (is_handle_of b handle)
      (λ g. if_both (Both h) (is_among handle (b.chains line)) (λ f. both_outcomes (like_chain line _)) (λ f. both_outcomes l)) (λ g. both_outcomes l)

  seen_used : (handle status call_back : ℕ) → Seen (SetCardUsed handle status call_back)
  unfolding reference_step
  seen_used handle status call_back =
      if_both (Both h) (is_handle_of b handle)
      (λ g. if_both (Both h) (leb status 3) (λ e. both_outcomes (like_mark (handle - 1) _)) (λ e. both_outcomes l)) (λ g. both_outcomes l)

  seen_with : (c : Call) → struck_out h c ≡ false → Seen c
  unfolding reference_step
  seen_with Load t = seen_load
  seen_with Reset t = seen_reset
  seen_with WriteImage t = seen_image
  seen_with (Config width handle register Read) t = both_outcomes l
  seen_with (Config width handle register FastRead) t = both_outcomes l
  seen_with (Config width handle register (Write value)) t = seen_config (bytes width) register value (target_of b (bytes width) handle register)
  seen_with (Data space width handle address Read) t =
      let r = reads (bytes width) handle (eqb-false handle h t) _ (in_slot b width (space_number space) handle address) in
      rw (← l.others.room, target_same, r.0) (both_outcomes l)
  seen_with (Data space width handle address FastRead) t =
      let r = reads (bytes width) handle (eqb-false handle h t) _ (in_slot b width (space_number space) handle address) in
      rw (← l.others.room, target_same, r.1) (both_outcomes l)
  seen_with (Data space width handle address (Write value)) t =
      rw (← l.others.room, target_same)
      (seen_write (bytes width) value (cell_target_for b (bytes width) (space_number space) handle address))
  seen_with (GetResource handle) t = both_outcomes l
  seen_with (HookInterrupt handle handler parameter) t = seen_hook handle handler parameter
  seen_with (UnhookInterrupt handle) t = seen_unhook handle
  seen_with (SetCardUsed handle status call_back) t = seen_used handle status call_back
  seen_with (Ask query) t = rw (← l.others.room) (both_outcomes l)

pub seen : {h : ℕ} {b d : Reference} → Like h b d → (c : Call) (own : List ℕ) → struck_out h c ≡ false
    → Both h (reference_step b c own) (reference_step d c own)
seen {h} {b} l c own t = by_cells (λ d. Both h (reference_step b c own) (reference_step d c own)) l (λ m k. seen_with b m k own c t)
