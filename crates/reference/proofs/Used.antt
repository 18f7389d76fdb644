-- For claim 2: the simulation of used marks.
use Prim.Native.Nat.{ℕ, ◌-◌, ◌<◌}
use native.Mathlib.Omega.{arith}
use mathlib.Core.Bool.{true}
use mathlib.Core.List.{List}
use mathlib.Core.Path.{◌≡◌, refl, ap}
use lib.Dec.{leb}
use Rattle.board.specs.Layout.{functions_max}
use Rattle.board.specs.Parts.{with_used}
use Rattle.card_used.specs.Used.{new_mark, used_of, MarkOutcome}
use Rattle.card_used.specs.declared.used.Mark.{Mark}
use Rattle.board.specs.declared.status.CallRefusal.{CallRefusal}
use Rattle.std.specs.Prelude.{Result}
use Rattle.card_used.proofs.Marks.{marks_at, marks_put}
use Rattle.call.specs.declared.call.Call.TheVariants.{SetCardUsed}
use Rattle.call.specs.declared.call.Query.TheVariants.{GetCardUsed}
use Rattle.call.specs.Answers.{of_status, of_used}
use Rattle.reference.specs.State.{outcome, step, queried}
use Rattle.reference.specs.Reference.{Reference, ReferenceOutcome, is_handle_of, reference_step, reference_queried}
use Rattle.reference.specs.Run.{parts_of}
use Rattle.reference.proofs.Tests.{if_both, if_alike}
use Rattle.reference.proofs.Sound.{Sound, sound_with, Same, Simulated, Answered, as_outcome, handle_same, handle_within}

module _ (b : Reference) (s : Sound b) where
  -- the function of a good handle has a mark
  marked : (handle : ℕ) → is_handle_of b handle ≡ true → handle - 1 < functions_max
  marked handle g = let k = handle_within b handle g in omega (arith, s.kept.few, k.0, k.1)

  pub same_get_used : (handle : ℕ) → Answered b (GetCardUsed handle)
  unfolding queried reference_queried parts_of
  same_get_used handle =
      ap of_used (if_alike (λ (x y : Result Mark CallRefusal). x ≡ y) (handle_same b s handle) (λ g. ap (used_of true) (marks_at b.used (handle - 1) (marked handle g))) (λ g. refl))

  pub same_set_used : (handle status call_back : ℕ) (own : List ℕ) → Simulated b (SetCardUsed handle status call_back) own
  unfolding step reference_step parts_of
  same_set_used handle status call_back own =
      let Marks : MarkOutcome → ReferenceOutcome → Type 0 = λ w t. Same (outcome (of_status w.status) (with_used w.used (parts_of b)) own) t in
      if_alike Marks (handle_same b s handle)
      (λ g.
      if_both Marks (leb status 3)
      (λ e.
      record {
        answer = refl;
        parts = ap (λ (l : List ℕ). with_used l (parts_of b)) (marks_put b.used (handle - 1) (new_mark status call_back) (marked handle g));
        own = refl;
        sound = sound_with s (omega arith) s.chained;
      })
      (λ e. as_outcome b s))
      (λ g. as_outcome b s)
