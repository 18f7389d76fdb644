-- Claim 3 for the hooks of each line.
use Prim.Native.Nat.{ℕ}
use mathlib.Core.Bool.{Bool, true, false, cond, not, false≢true}
use mathlib.Core.List.{List, [], ◌∷◌}
use mathlib.Core.Path.{◌≡◌, refl, ap}
use lib.Dec.{eqb, ltb, leb}
use lib.ListN.{length}
use borrow.Author.Tests.{eq-eqb, ne_eqb, eqb-true}
use Rattle.numbers.specs.Numbers.{bytes}
use Rattle.interrupt_array.specs.Hooks.{hook, is_routed}
use Rattle.interrupt_array.specs.declared.hooks.Hook.{Hook}
use Rattle.interrupt_hook.specs.Meaning.{is_among, without}
use Rattle.cell_layout.specs.Cells.{total}
use Rattle.image_layout.specs.Image.{image_size}
use Rattle.board.specs.Spaces.{space_number}
use Rattle.board.specs.declared.status.CallRefusal.{CallRefusal}
use Rattle.data_cells.specs.Cells.{CellTarget}
use Rattle.std.specs.Prelude.{Result, Ok, Err}
use Rattle.reference.proofs.Verdicts.{refuses_image, if_accepted}
use Rattle.call.specs.declared.answer.Answer.{Answer}
use Rattle.call.specs.declared.call.Call.{Call}
use Rattle.call.specs.declared.call.Access.TheVariants.{Read, FastRead, Write}
use Rattle.call.specs.declared.call.Call.TheVariants.{Load, Reset, WriteImage, Config, Data, GetResource, HookInterrupt, UnhookInterrupt, SetCardUsed, Ask}
use Rattle.call.specs.Answers.{of_status}
use Rattle.data_window.specs.Find.{refusal_of}
use Rattle.reference.specs.State.{outcome}
use Rattle.reference.specs.Reference.{Reference, ReferenceOutcome, reference_outcome, is_handle_of, exponent_of, line_for, pin_for, image_verdict, target_of, cell_target_for, write_of, write_data_of, reference_step}
use Rattle.reference.specs.Run.{parts_of}
use Rattle.reference.specs.Claims.{HooksTouch, hooks_stay, put_last, taken_from, all_cleared, may_touch, TakenOut, OnLine, LinesFramed}
use Rattle.reference.proofs.Tests.{if_test, if_either}
use Rattle.reference.proofs.Sound.{Sound}
use Rattle.reference.proofs.HookArray.{chain_same}

-- a list with a hook of a handle is what is before it, the hook and what is after it
pub taken_out : (handle : ℕ) (hs : List Hook) → is_among handle hs ≡ true → TakenOut handle hs (without handle hs)
unfolding is_among without
taken_out handle [] e = absurd (false≢true e)
taken_out handle (h ∷ hs) e =
    if_either (eqb h.handle handle)
    (λ t. record { before = []; entry = h; after = hs; its = eqb-true h.handle handle t; stood = refl; left = rw t })
    (λ t.
    let r = taken_out handle hs (rw t at e) in
    record {
      before = h ∷ r.before;
      entry = r.entry;
      after = r.after;
      its = r.its;
      stood = ap (λ (l : List Hook). h ∷ l) r.stood;
      left = rw t (ap (λ (l : List Hook). h ∷ l) r.left);
    })

-- the hooks of a line beside the reference machine's outcome
abbrev Line : HooksTouch → Reference → ℕ → ReferenceOutcome → Type 0
Line t b line r = OnLine (cond r.answer.refused hooks_stay t) line (b.chains line) (r.reference.chains line)

-- a call that leaves the chains, accepted or not
kept_line : (x : Bool) (line : ℕ) (hs : List Hook) → OnLine (cond x hooks_stay hooks_stay) line hs hs
kept_line true line hs = refl
kept_line false line hs = refl

module _ (b : Reference) (own : List ℕ) (line : ℕ) where
  stay : (a : Answer) → Line hooks_stay b line (reference_outcome a b own)
  stay a = kept_line a.refused line (b.chains line)

  write_line : (w register value : ℕ) (t : Result ℕ CallRefusal) → Line hooks_stay b line (write_of b w register value own t)
  write_line w register value (Ok i) = refl
  write_line w register value (Err r) = stay (of_status (Err r))

  data_line : (w value : ℕ) (t : CellTarget) → Line hooks_stay b line (write_data_of b w value own t)
  data_line w value (Ok c) = refl
  data_line w value (Err r) = stay (of_status (Err (refusal_of r)))

  hook_line : (handle handler parameter : ℕ)
      → (let c = HookInterrupt handle handler parameter in Line (may_touch b c own).hooks b line (reference_step b c own))
  unfolding may_touch reference_step
  hook_line handle handler parameter =
      let l = line_for b handle in
      let P = Line (put_last l (hook handle handler parameter)) b line in
      if_test P (is_handle_of b handle)
      (λ g.
      if_test P (is_routed (pin_for b handle) l)
      (λ r.
      if_test P (not (is_among handle (b.chains l)))
      (λ f. ((λ z. rw (z, eq-eqb l l refl)), (λ n. rw (ne_eqb line l n))))
      (λ f. refl))
      (λ r. refl))
      (λ g. refl)

  unhook_line : (handle : ℕ) → (let c = UnhookInterrupt handle in Line (may_touch b c own).hooks b line (reference_step b c own))
  unfolding may_touch reference_step
  unhook_line handle =
      let l = line_for b handle in
      let P = Line (taken_from l handle) b line in
      if_test P (is_handle_of b handle)
      (λ g.
      if_test P (is_among handle (b.chains l))
      (λ e. ((λ z. rw (z, eq-eqb l l refl) (taken_out handle (b.chains l) e)), (λ n. rw (ne_eqb line l n))))
      (λ e. refl))
      (λ g. refl)

  lines_stay : (c : Call) → Line (may_touch b c own).hooks b line (reference_step b c own)
  unfolding may_touch reference_step
  lines_stay Load =
      if_accepted (image_verdict own (length b.cells)) (λ e. rw e refl) (λ r e. rw (e, refuses_image r) refl)
  lines_stay Reset =
      if_test (Line all_cleared b line) (ltb (length b.cells) (total (exponent_of b.records))) (λ e. refl) (λ e. refl)
  lines_stay WriteImage =
      if_test (Line hooks_stay b line) (ltb (length own) (image_size (length b.records))) (λ e. refl)
      (λ e. if_test (Line hooks_stay b line) (eqb (length b.records) 0) (λ z. refl) (λ z. refl))
  lines_stay (Config width handle register Read) = stay (reference_step b (Config width handle register Read) own).answer
  lines_stay (Config width handle register FastRead) = stay (reference_step b (Config width handle register FastRead) own).answer
  lines_stay (Config width handle register (Write value)) =
      write_line (bytes width) register value (target_of b (bytes width) handle register)
  lines_stay (Data space width handle address Read) = stay (reference_step b (Data space width handle address Read) own).answer
  lines_stay (Data space width handle address FastRead) = stay (reference_step b (Data space width handle address FastRead) own).answer
  lines_stay (Data space width handle address (Write value)) =
      data_line (bytes width) value (cell_target_for b (bytes width) (space_number space) handle address)
  lines_stay (GetResource handle) = stay (reference_step b (GetResource handle) own).answer
  lines_stay (HookInterrupt handle handler parameter) = hook_line handle handler parameter
  lines_stay (UnhookInterrupt handle) = unhook_line handle
  lines_stay (SetCardUsed handle status call_back) =
      if_test (Line hooks_stay b line) (is_handle_of b handle)
      (λ g. if_test (Line hooks_stay b line) (leb status 3) (λ e. refl) (λ e. refl)) (λ g. refl)
  lines_stay (Ask query) = stay (reference_step b (Ask query) own).answer

-- and so of the lent parts, whose chains are the reference machine's
pub lines_framed : (b : Reference) → Sound b → (c : Call) (own : List ℕ) → Sound (reference_step b c own).reference
    → (let r = reference_step b c own in LinesFramed (may_touch b c own).hooks (parts_of b) (outcome r.answer (parts_of r.reference) r.own))
unfolding parts_of
lines_framed b s c own t line h =
    rw (chain_same b s line h, chain_same (reference_step b c own).reference t line h) (lines_stay b own line c)
