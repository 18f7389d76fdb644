-- The rows of an entry, computed: a line for each field, so that an error names the rule.
use mathlib.Core.Path.{refl}
use Rattle.image_entry.specs.Entry.{entry_ok}
use Rattle.image_entry.specs.Rows.{ImageEntryRows, accepted_below}

pub image_entry_rows : ImageEntryRows
unfolding accepted_below entry_ok
image_entry_rows =
    record {
      no_window_order = refl;
      no_window_widths = refl;
      no_window_fourth = refl;
      no_window_register = refl;
      no_window_mask = refl;
      memory_exponents = refl;
      io_exponents = refl;
      memory_orders = refl;
      io_orders = refl;
      memory_widths = refl;
      io_widths = refl;
      memory_fourth = refl;
      io_fourth = refl;
      least_masks = refl;
      greatest_masks = refl;
      memory_masks = refl;
      io_masks = refl;
      low_bits = refl;
      low_bits_of4 = refl;
      low_bits_of3 = refl;
      low_bits_of2 = refl;
      low_bits_of16 = refl;
      high_bits = refl;
    }
