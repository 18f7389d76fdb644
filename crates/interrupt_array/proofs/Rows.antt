-- The rows, worked out.
use mathlib.Core.Path.{refl}
use Rattle.numbers.specs.Tables.{table_from}
use Rattle.interrupt_array.specs.Hooks.{hooks_from, chosen, hook_numbers}
use Rattle.interrupt_array.specs.Rows.{InterruptArrayRows}

pub interrupt_array_rows : InterruptArrayRows
unfolding table_from hooks_from chosen hook_numbers
interrupt_array_rows =
    record {
      line = refl;
      pin = refl;
      pins = refl;
      lines = refl;
      entries = refl;
      array = refl;
      in_a_row = refl;
      chains = refl;
    }
