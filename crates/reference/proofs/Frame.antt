-- Claim 3: what a call may not touch is equal before and after it.
use Prim.Native.Nat.{ℕ, ◌*◌, ◌/◌}
use native.Mathlib.Numerals.{add-one}
use mathlib.Core.Bool.{false}
use mathlib.Core.Path.{◌≡◌, refl, sym, ◌∙◌, ap}
use mathlib.Core.List.{List}
use lib.Dec.{ltb, eqb, eqb-suc-suc}
use lib.ListN.{length, length-append}
use borrow.Author.Tests.{ltb-false}
use Rattle.board.specs.Parts.{Parts}
use Rattle.board.specs.Layout.{functions_max, registers_each, mark_size}
use Rattle.numbers.specs.Numbers.{bytes}
use Rattle.std.specs.Prelude.{Ok}
use Rattle.config_write.specs.Write.{moves_windows}
use Rattle.board.specs.Spaces.{space_number}
use Rattle.cell_layout.specs.Cells.{total}
use Rattle.image_refusals.specs.Refusals.{is_accepted}
use Rattle.image_layout.specs.Image.{image_size, sum, trailer}
use Rattle.image_writer.proofs.Lists.{trailer_length}
use Rattle.call.specs.declared.call.Call.{Call}
use Rattle.call.specs.declared.call.Access.TheVariants.{Read, FastRead, Write}
use Rattle.call.specs.declared.call.Call.TheVariants.{Load, Reset, WriteImage, Config, Data, GetResource, HookInterrupt, UnhookInterrupt, SetCardUsed, Ask}
use Rattle.reference.specs.Reference.{Reference, reference_outcome, fresh, exponent_of, joined, image_bytes, target_of, cell_target_for, write_of, image_verdict, reference_step, reference_start}
use Rattle.reference.specs.Run.{Request, step_on, reference_after, parts_of}
use Rattle.reference.specs.Claims.{Touch, hooks_stay, none, every, touch, nothing, addressed, may_touch, CallFramed, Frame}
use Rattle.reference.proofs.Tests.{if_test, if_target, if_at}
use Rattle.reference.proofs.Alike.{alike, touched, header_alike, zeroed_alike, table_alike, front_alike, written_alike}
use Rattle.reference.proofs.Records.{joined_length}
use Rattle.reference.proofs.Same.{accepted_whole}
use Rattle.reference.proofs.Sound.{Sound}
use Rattle.reference.proofs.Configuration.{left, follows, writes}
use Rattle.reference.proofs.Simulation.{same, sound_start, start_same}
use Rattle.reference.proofs.Refinement.{goes}
use Rattle.reference.proofs.LinesStay.{lines_framed}
use Rattle.reference.proofs.Stays.{Stays, records_left, cells_and_own, own_only, keeps, stays_resource, stays_hook, stays_unhook, stays_used}

-- what a write of w registers may touch
abbrev write_touch : ℕ → ℕ → ℕ → Touch
write_touch w handle register = touch none false (addressed w handle register) (moves_windows w register) hooks_stay none none none

module _ (b : Reference) (s : Sound b) (own : List ℕ) where
  stays_load : Stays (may_touch b Load own) b own (reference_step b Load own)
  unfolding may_touch reference_step parts_of
  stays_load =
      if_test (Stays (may_touch b Load own) b own) (is_accepted (image_verdict own (length b.cells)))
      (λ e.
      record {
        header = header_alike _ _;
        records = λ t. touched t;
        offsets = λ t. touched t;
        registers = table_alike every (functions_max * registers_each) _ _ (λ j u. touched u);
        list = λ t. touched t;
        hooks = λ t. touched (sym t);
        used = table_alike every (functions_max * mark_size) _ _ (λ j u. touched u);
        cells = zeroed_alike _ b.cells (accepted_whole own (length b.cells) e).fits;
        own = alike _ own;
      })
      (λ e. keeps (may_touch b Load own) b own _)

  stays_reset : Stays (may_touch b Reset own) b own (reference_step b Reset own)
  unfolding may_touch reference_step parts_of
  stays_reset =
      if_test (Stays (may_touch b Reset own) b own) (ltb (length b.cells) (total (exponent_of b.records)))
      (λ e. keeps (may_touch b Reset own) b own _)
      (λ e.
      records_left (may_touch b Reset own) b own (reference_outcome _ (fresh b.records b.cells) own) refl
      (table_alike every (functions_max * registers_each) _ _ (λ j u. touched u)) (λ t. touched t) (λ t. touched (sym t))
      (table_alike every (functions_max * mark_size) _ _ (λ j u. touched u)) (zeroed_alike _ b.cells s.fits) (alike _ own))

  image_length : length (image_bytes b.records) ≡ image_size (length b.records)
  image_length =
      let j = joined b.records in
      length-append j (trailer (length b.records) (sum j))
      ∙ rw (joined_length b.records s.kept.sized, trailer_length (length b.records) (sum j))

  stays_write : Stays (may_touch b WriteImage own) b own (reference_step b WriteImage own)
  unfolding may_touch reference_step parts_of
  stays_write =
      if_test (Stays (may_touch b WriteImage own) b own) (ltb (length own) (image_size (length b.records)))
      (λ e. keeps (may_touch b WriteImage own) b own _)
      (λ e.
      if_test (Stays (may_touch b WriteImage own) b own) (eqb (length b.records) 0)
      (λ z. keeps (may_touch b WriteImage own) b own _)
      (λ z. own_only (may_touch b WriteImage own) b own _ _ (front_alike _ (image_bytes b.records) own image_length (ltb-false (length own) _ e))))

  -- a write that addresses none of the list's bytes
  list_left : (w handle register value : ℕ) → moves_windows w register ≡ false
      → (parts_of (write_of b w register value own (target_of b w handle register)).reference).windows ≡ (parts_of b).windows
  list_left w handle register value m =
      sym (ap (λ (q : Parts). q.windows) (writes b s w handle register value own).parts) ∙ sym (follows b s w handle register value)
      ∙ if_target (λ t. (left b w register value t).windows ≡ (parts_of b).windows) (length b.records) w handle register (λ i h e k. rw m) refl refl

  stays_written : (w handle register value : ℕ)
      → Stays (write_touch w handle register) b own (write_of b w register value own (target_of b w handle register))
  unfolding parts_of
  stays_written w handle register value =
      let t = write_touch w handle register in
      if_target (λ g. (moves_windows w register ≡ false → (parts_of (write_of b w register value own g).reference).windows ≡ (parts_of b).windows)
      → Stays t b own (write_of b w register value own g))
      (length b.records) w handle register
      (λ i h e k l.
      records_left t b own (write_of b w register value own (Ok i)) refl
      (table_alike (addressed w handle register) (functions_max * registers_each) _ _ (λ j u. rw (rw (e, add-one (j / registers_each), add-one i, eqb-suc-suc) at u)))
      l (λ u. refl) (alike _ _) (alike _ _) (alike _ own))
      (λ l. keeps t b own _) (λ l. keeps t b own _)
      (list_left w handle register value)

  stays : (c : Call) → Stays (may_touch b c own) b own (reference_step b c own)
  unfolding may_touch reference_step
  stays Load = stays_load
  stays Reset = stays_reset
  stays WriteImage = stays_write
  stays (Config width handle register Read) = keeps nothing b own _
  stays (Config width handle register FastRead) = keeps nothing b own _
  stays (Config width handle register (Write value)) = stays_written _ handle register value
  stays (Data space width handle address Read) = keeps nothing b own _
  stays (Data space width handle address FastRead) = keeps nothing b own _
  stays (Data space width handle address (Write value)) =
      if_at (cell_target_for b (bytes width) (space_number space) handle address)
      (λ c e. rw e (cells_and_own _ b _ own own _ (written_alike c.order _ c.at value b.cells) (alike _ own)))
      (λ r e. rw e (keeps _ b own _))
  stays (GetResource handle) = stays_resource b own handle
  stays (HookInterrupt handle handler parameter) = stays_hook b own handle handler parameter
  stays (UnhookInterrupt handle) = stays_unhook b own handle
  stays (SetCardUsed handle status call_back) = stays_used b own handle status call_back
  stays (Ask query) = keeps nothing b own _

-- of one call on the parts of any sound state
pub framed : (b : Reference) → Sound b → (c : Request) → CallFramed b (parts_of b) c (step_on (parts_of b) c)
framed b s c =
    let n = same b s c.call c.own in
    record {
      parts = rw (n.answer, n.parts, n.own) (stays b s c.own c.call);
      lines = rw (n.answer, n.parts) (lines_framed b s c.call c.own n.sound);
    }

pub frame : Frame
frame cells cs c =
    let g = goes (reference_start cells) (sound_start cells) cs in
    rw (start_same cells, g.stands) (framed (reference_after (reference_start cells) cs) g.sound c)
