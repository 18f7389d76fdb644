-- The rows, worked out.
use mathlib.Core.Path.{refl}
use Rattle.interrupt_edit.specs.Rows.{InterruptEditRows}

pub interrupt_edit_rows : InterruptEditRows
interrupt_edit_rows =
    record {
      in_first = refl;
      in_between = refl;
      in_last = refl;
      out_first = refl;
      out_between = refl;
      out_last = refl;
    }
