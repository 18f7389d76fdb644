-- The rows, worked out.
use mathlib.Core.Path.{refl}
use Rattle.window_listing.specs.Listing.{listing, listed_number, listed_values}
use Rattle.window_listing.specs.Rows.{WindowListingRows}

pub window_listing_rows : WindowListingRows
unfolding listing listed_number listed_values
window_listing_rows =
    record {
      answered = refl;
      answer_numbers = refl;
      answer_values = refl;
      listed_numbers = refl;
      listed_windows = refl;
      no_window = refl;
      no_window_number = refl;
    }
