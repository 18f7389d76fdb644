-- A window that is found for what a caller names is found on the bus.
use Rattle.std.proofs.Common.{◌≡◌, Bool, true, false, cond, refl, true≢false, Ok, Err}
use Rattle.call_edition.specs.Edition.{is_known}
use Rattle.call_edition.specs.declared.edition.InEdition.{InEdition}
use Rattle.data_window.specs.declared.find.Found.{Found}
use Rattle.data_window.specs.declared.refusal.DataRefusal.TheVariants.{UnknownEdition}
use Rattle.data_window.specs.Find.{Finding, if_known}

-- its edition is known, and the rest of the checks found it
pub found_named_lem : (address : InEdition) (finding : Finding) (f : Found)
    → if_known address finding ≡ Ok f
    → (is_known address ≡ true) × (finding ≡ Ok f)
found_named_lem address finding f = by (is_known address) refl
  where
    by : (b : Bool) → is_known address ≡ b → cond b finding (Err UnknownEdition) ≡ Ok f
        → (is_known address ≡ true) × (finding ≡ Ok f)
    by true k e = (k, e)
    by false k e = absurd (true≢false cc)
