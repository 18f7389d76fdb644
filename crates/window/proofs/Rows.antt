-- The rows, worked out.
use mathlib.Core.Path.{refl}
use Rattle.window.specs.Kept.{pack, unpacked}
use Rattle.window.specs.Rows.{WindowRows}

pub window_rows : WindowRows
unfolding pack unpacked
window_rows =
    record {
      spaces = refl;
      memory_command = refl;
      io_command = refl;
      memory_at_zero = refl;
      io_at_zero = refl;
      starts = refl;
      starts_of10 = refl;
      exponents = refl;
      open_exponents = refl;
      lengths = refl;
      memory_window = refl;
      io_window = refl;
      window_ends = refl;
      packed_memory = refl;
      unpacked_memory = refl;
      packed_io = refl;
      unpacked_io = refl;
      codes = refl;
      kept_begins = refl;
      kept_ends = refl;
      kept_end = refl;
      kept_windows = refl;
    }
