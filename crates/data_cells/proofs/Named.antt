-- What is found is found for a handle, whose function stands at the place one below it.
use Prim.Native.Nat.{ℕ, ◌-◌}
use mathlib.Core.List.{List}
use mathlib.Core.Path.{◌≡◌, refl, sym, ◌∙◌}
use Rattle.board.specs.Handles.{place_of_handle}
use Rattle.board.proofs.Handles.{place_named}
use Rattle.std.specs.Prelude.{Ok, Err}
use Rattle.data_window.specs.declared.find.Found.{Found}
use Rattle.call_edition.specs.declared.edition.InEdition.{InEdition}
use Rattle.data_window.specs.Find.{Finding, find_named}
use Rattle.data_window.proofs.Meaning.{found_means}
use Rattle.data_window.proofs.OnBus.{found_named_lem}
use Rattle.data_cells.specs.Cells.{CellTarget, cell_target_of, cell_target_in, cell_target}

-- only a finding of a window asks for the function
found_only : (records offsets : List ℕ) (room w p q : ℕ) (f : Finding) → ((g : Found) → f ≡ Ok g → p ≡ q)
    → cell_target_in records offsets room w p f ≡ cell_target_in records offsets room w q f
unfolding cell_target_of
found_only records offsets room w p q (Ok g) h = rw (h g refl)
found_only records offsets room w p q (Err r) h = refl

-- so the target for what is found is the access's: for a number that is no handle nothing is found
pub target_named : (header records windows offsets : List ℕ) (w room space handle : ℕ) (address : InEdition) (function : ℕ) (finding : Finding) (target : CellTarget)
    → finding ≡ find_named w header records windows offsets room space handle address
    → function ≡ place_of_handle handle
    → target ≡ cell_target_in records offsets room w function finding
    → target ≡ cell_target w header records windows offsets room space handle address
target_named header records windows offsets w room space handle address function finding target f h p =
    p
    ∙ found_only records offsets room w function (handle - 1) finding
    (λ g e. h ∙ place_named header handle (found_means _ _ _ _ _ _ _ _ g (found_named_lem address _ g (sym f ∙ e)).1).0.0)
    ∙ rw f
