-- The rows, worked out.
use mathlib.Core.Path.{refl}
use Rattle.window_start.specs.Start.{start_in}
use Rattle.window_start.specs.Rows.{WindowStartRows}

pub window_start_rows : WindowStartRows
unfolding start_in
window_start_rows =
    record {
      shown = refl;
      shown_of_other = refl;
      contested_start = refl;
      closed_start = refl;
      closed_of_other = refl;
      no_window = refl;
    }
