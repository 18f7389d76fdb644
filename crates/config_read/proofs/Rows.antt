-- The rows, worked out.
use mathlib.Core.Path.{refl}
use Rattle.numbers.specs.Numbers.{little}
use Rattle.config_read.specs.Target.{target}
use Rattle.config_read.specs.Rows.{ConfigReadRows}

pub config_read_rows : ConfigReadRows
unfolding little target
config_read_rows =
    record {
      bad_handle_first = refl;
      bytes = refl;
      words = refl;
      longwords = refl;
      last_bytes = refl;
      last_words = refl;
      last_longwords = refl;
      refused = refl;
      refused_fast = refl;
      odd_fast = refl;
      accepted_fast = refl;
    }
