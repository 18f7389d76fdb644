-- The rows, worked out.
use mathlib.Core.Path.{refl}
use Rattle.numbers.specs.Numbers.{big}
use Rattle.numbers.specs.Tables.{table_from}
use Rattle.image_layout.specs.Image.{sum}
use Rattle.image_layout.specs.Rows.{ImageLayoutRows}

pub image_layout_rows : ImageLayoutRows
unfolding big table_from sum
image_layout_rows =
    record {
      sizes = refl;
      trailer_fields = refl;
      record_positions = refl;
      records_found = refl;
      places = refl;
      sums = refl;
      written = refl;
    }
