-- The rows, worked out.
use mathlib.Core.Path.{refl}
use Rattle.call.specs.Rows.{CallRows}

pub call_rows : CallRows
call_rows =
    record {
      statuses = refl;
      writers = refl;
      loads = refl;
      searches = refl;
      reads = refl;
      fast_reads = refl;
      to_cpu = refl;
      to_bus = refl;
      windows = refl;
      hooks = refl;
      no_hook = refl;
      marks = refl;
      writing = refl;
    }
