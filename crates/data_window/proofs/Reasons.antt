-- Each reason, and when it is handed on: a reason that is one tells the finding.
use Rattle.std.proofs.Common.{◌≡◌, ℕ, ◌<◌, cond, eqb, ◌↔◌, refl, ap, ◌∙◌, inl, inr, arith, Ok, Err}
use Rattle.data_window.specs.declared.refusal.DataRefusal.TheVariants.{UnknownEdition, BadHandle, ShortCells, NotAligned, Nothing, Contested, WidthMissing, PastBuffer}
use Rattle.data_window.specs.Find.{Finding, find, found_window}
use Rattle.data_window.specs.Meaning.{Given, Unreasoned, ReasonsGiven, ReasonsMean}
use Rattle.data_window.proofs.Meaning.{find_means}

-- the finding that a reason is of; of 0, any
abbrev finding_for : ℕ → Finding
finding_for n = cond (eqb n 1) (Err NotAligned) (cond (eqb n 2) (Err Nothing) (cond (eqb n 3) (Err Contested) (Err WidthMissing)))

pub told_by : (f : Finding) → 0 < (found_window f).reason → f ≡ finding_for (found_window f).reason
told_by (Ok f) h = absurd (omega (arith, h))
told_by (Err UnknownEdition) h = absurd (omega (arith, h))
told_by (Err BadHandle) h = absurd (omega (arith, h))
told_by (Err ShortCells) h = absurd (omega (arith, h))
told_by (Err NotAligned) h = refl
told_by (Err Nothing) h = refl
told_by (Err Contested) h = refl
told_by (Err WidthMissing) h = refl
told_by (Err PastBuffer) h = absurd (omega (arith, h))

-- of any finding, by the condition of each
module _ (found : Finding) (Met : Finding → Type 0) (met : (f : Finding) → (found ≡ f) ↔ Met f) where
  given_reason : (f : Finding) → Met f → (found_window found).reason ≡ (found_window f).reason
  given_reason f m = ap (λ (g : Finding). (found_window g).reason) ((met f).1 m)

  -- a reason that is one, in both directions
  reasoned : (n : ℕ) → 0 < n → (found_window (finding_for n)).reason ≡ n → ((found_window found).reason ≡ n) ↔ Met (finding_for n)
  reasoned n h same =
      (λ e. (met (finding_for n)).0 (told_by found (rw e h) ∙ ap finding_for e), λ m. given_reason (finding_for n) m ∙ same)

  -- none, of the findings that are left
  unreasoned : (f : Finding) → Met f → (found_window f).reason ≡ 0 → Unreasoned Met
  unreasoned (Err UnknownEdition) m e = inl m
  unreasoned (Err BadHandle) m e = inr (inl m)
  unreasoned (Err ShortCells) m e = inr (inr (inl m))
  unreasoned (Err PastBuffer) m e = inr (inr (inr (inl m)))
  unreasoned (Ok f) m e = inr (inr (inr (inr (f, m))))
  unreasoned (Err NotAligned) m e = absurd (omega (arith, e))
  unreasoned (Err Nothing) m e = absurd (omega (arith, e))
  unreasoned (Err Contested) m e = absurd (omega (arith, e))
  unreasoned (Err WidthMissing) m e = absurd (omega (arith, e))

  without : Unreasoned Met → (found_window found).reason ≡ 0
  without (inl m) = given_reason (Err UnknownEdition) m
  without (inr (inl m)) = given_reason (Err BadHandle) m
  without (inr (inr (inl m))) = given_reason (Err ShortCells) m
  without (inr (inr (inr (inl m)))) = given_reason (Err PastBuffer) m
  without (inr (inr (inr (inr (f, m))))) = given_reason (Ok f) m

  pub reasons_given : ReasonsGiven Met (found_window found).reason
  reasons_given =
      record {
        none = (unreasoned found ((met found).0 refl), without);
        not_aligned = reasoned 1 (omega arith) refl;
        nothing_there = reasoned 2 (omega arith) refl;
        contested = reasoned 3 (omega arith) refl;
        width_missing = reasoned 4 (omega arith) refl;
      }

-- THEOREM: each reason is handed on exactly on its condition
pub reasons_mean : ReasonsMean
reasons_mean good short offered l space w handle address =
    reasons_given (find good short offered l space w handle address) (Given good short offered l space w handle address)
    (find_means good short offered l space w handle address)
