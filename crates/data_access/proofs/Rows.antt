-- The rows of the data calls, worked out.
use mathlib.Core.Path.{refl}
use Rattle.numbers.specs.Numbers.{big, reversed}
use Rattle.numbers.specs.Tables.{table_from}
use Rattle.window.specs.Kept.{pack, unpacked}
use Rattle.data_window.specs.Find.{in_list, find}
use Rattle.data_cells.specs.Cells.{cell_target_of}
use Rattle.data_access.specs.Rows.{DataAccessRows}

pub data_access_rows : DataAccessRows
unfolding big reversed table_from pack unpacked in_list find cell_target_of
data_access_rows =
    record {
      read_accepted = refl;
      fast_accepted = refl;
      write_accepted = refl;
      read_reversed = refl;
      fast_reversed = refl;
      write_reversed = refl;
      read_refused = refl;
      fast_refused = refl;
      write_refused = refl;
      c_known = refl;
      c_fast_known = refl;
      c_write_known = refl;
      c_other = refl;
      c_other_bad = refl;
      c_fast_other = refl;
      c_fast_other_bad = refl;
      c_write_other = refl;
      c_write_other_bad = refl;
      draft_read = refl;
      draft_fast = refl;
      draft_write = refl;
      draft_other = refl;
      unknown_read = refl;
      unknown_fast = refl;
      unknown_write = refl;
      c_editions = refl;
      c_editions_bad = refl;
      c_fast_editions = refl;
      c_fast_editions_bad = refl;
      c_write_editions = refl;
    }
