-- The rows, worked out.
use mathlib.Core.Path.{refl}
use Rattle.image_refusals.specs.Refusals.{first_bad, first_refusal}
use Rattle.image_refusals.specs.Rows.{ImageRefusalsRows}

pub image_refusals_rows : ImageRefusalsRows
unfolding first_bad first_refusal
image_refusals_rows =
    record {
      shorter = refl;
      longer = refl;
      editions = refl;
      counts = refl;
      distances = refl;
      exceeding = refl;
      sums = refl;
      bad_records = refl;
      last_bad_record = refl;
      totals = refl;
      rooms = refl;
      neighbours = refl;
      seven_before_eight = refl;
      no_place = refl;
      first_places = refl;
      numbers = refl;
      acceptances = refl;
    }
