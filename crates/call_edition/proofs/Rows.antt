-- The rows, each computed.
use mathlib.Core.Path.{refl}
use Rattle.call_edition.specs.Edition.{named_bus}
use Rattle.call_edition.specs.Rows.{CallEditionRows}

pub call_edition_rows : CallEditionRows
unfolding named_bus
call_edition_rows =
    record {
      known = refl;
      bad_vendors = refl;
      good_vendors = refl;
      draft_ids = refl;
      later_ids = refl;
      draft_classes = refl;
      later_classes = refl;
      draft_addresses = refl;
      small_offset = refl;
      later_addresses = refl;
      named_addresses = refl;
    }
