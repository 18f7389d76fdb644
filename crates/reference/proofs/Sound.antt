-- For claim 2: what every reference state of a run has, and what is proved of each call on its lent
-- parts.
use Prim.Native.Nat.{ℕ, ◌<◌, ◌≤◌, min}
use native.Mathlib.Nat.{min-eq_left, le_trans}
use mathlib.Core.Bool.{true}
use mathlib.Core.Path.{◌≡◌, refl}
use mathlib.Core.List.{List}
use lib.Dec.{leb}
use lib.ListN.{length}
use borrow.Author.Tests.{leb-true}
use Rattle.board.specs.Handles.{is_handle}
use Rattle.board.specs.Layout.{functions_max}
use Rattle.numbers.proofs.Tests.{both_true}
use Rattle.interrupt_array.specs.declared.hooks.Hook.{Hook}
use Rattle.card_used.specs.declared.used.Mark.{Mark}
use Rattle.cell_layout.specs.Cells.{total}
use Rattle.call.specs.declared.answer.Answer.{Answer}
use Rattle.call.specs.declared.call.Call.{Call}
use Rattle.call.specs.declared.call.Query.{Query}
use Rattle.reference.specs.State.{Outcome, outcome, step, queried}
use Rattle.reference.specs.Reference.{Reference, reference, ReferenceOutcome, reference_outcome, exponent_of, is_handle_of, reference_step, reference_queried}
use Rattle.reference.specs.Run.{parts_of}
use Rattle.reference.proofs.Records.{Ruled}
use Rattle.reference.proofs.Chained.{Chained}

pub record Sound (b : Reference) : Type 0 where
  pub kept : Ruled b.records
  pub fits : total (exponent_of b.records) ≤ length b.cells
  pub chained : Chained b.records b.chains

-- the same records beside other registers, at least as many cells, other chains and marks
pub sound_with : {b : Reference} {registers : ℕ → ℕ → ℕ} {cells : List ℕ} {chains : ℕ → List Hook} {used : ℕ → Mark} → Sound b
    → length b.cells ≤ length cells → Chained b.records chains → Sound (reference b.records registers cells chains used)
sound_with s more c = record { kept = s.kept; fits = le_trans s.fits more; chained = c }

pub record Same (n : Outcome) (t : ReferenceOutcome) : Type 0 where
  pub answer : n.answer ≡ t.answer
  pub parts : n.parts ≡ parts_of t.reference
  pub own : n.own ≡ t.own
  pub sound : Sound t.reference

-- the program's step on the parts of a reference state is the reference machine's step
abbrev pub Simulated : Reference → Call → List ℕ → Type 0
Simulated b c own = Same (step (parts_of b) c own) (reference_step b c own)

-- and so is its answer to a query
abbrev pub Answered : Reference → Query → Type 0
Answered b q = queried (parts_of b) q ≡ reference_queried b q

module _ (b : Reference) (s : Sound b) where
  -- an answer beside the parts of the state itself
  pub as_outcome : {a : Answer} {own : List ℕ} → Same (outcome a (parts_of b) own) (reference_outcome a b own)
  as_outcome = record { answer = refl; parts = refl; own = refl; sound = s }

  pub answered : {a a' : Answer} {own : List ℕ} → a ≡ a' → Same (outcome a (parts_of b) own) (reference_outcome a' b own)
  answered e = record { answer = e; parts = refl; own = refl; sound = s }

  pub count_same : min (length b.records) functions_max ≡ length b.records
  count_same = min-eq_left s.kept.few

  pub handle_same : (handle : ℕ) → is_handle (parts_of b).header handle ≡ is_handle_of b handle
  unfolding parts_of
  handle_same handle = rw count_same

-- a good handle is from 1 to the count
pub handle_within : (b : Reference) (handle : ℕ) → is_handle_of b handle ≡ true → (0 < handle) × (handle ≤ length b.records)
handle_within b handle g =
    let t = both_true (leb 1 handle) (leb handle (length b.records)) g in
    (leb-true 1 handle t.0, leb-true handle (length b.records) t.1)
