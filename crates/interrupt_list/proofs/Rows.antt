-- The rows, worked out.
use mathlib.Core.Path.{refl}
use Rattle.interrupt_list.specs.Listing.{listed_hook, hook_listed_number, hook_listed_values}
use Rattle.interrupt_list.specs.Rows.{InterruptListRows}

pub interrupt_list_rows : InterruptListRows
unfolding listed_hook hook_listed_number hook_listed_values
interrupt_list_rows =
    record {
      index = refl;
      lines = refl;
      empty_lines = refl;
      numbers = refl;
      line_numbers = refl;
      empty_numbers = refl;
      values = refl;
      line_values = refl;
    }
