-- The rows, worked out.
use mathlib.Core.Path.{refl}
use Rattle.numbers.specs.Tables.{table_from}
use Rattle.card_used.specs.Rows.{CardUsedRows}

pub card_used_rows : CardUsedRows
unfolding table_from
card_used_rows =
    record {
      set_used = refl;
      set_first = refl;
      bad_handle_first = refl;
      bad_handle = refl;
      get_used = refl;
      get_refused = refl;
      array = refl;
    }
