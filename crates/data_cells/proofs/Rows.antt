-- The rows of the cells of an access, worked out.
use mathlib.Core.Path.{refl}
use Rattle.numbers.specs.Numbers.{big, reversed}
use Rattle.numbers.specs.Tables.{table_from}
use Rattle.data_cells.specs.Cells.{cell_target_of}
use Rattle.data_cells.specs.Rows.{DataCellsRows}

pub data_cells_rows : DataCellsRows
unfolding big reversed table_from cell_target_of
data_cells_rows =
    record {
      readings0 = refl;
      readings15 = refl;
      readings3 = refl;
      readings1 = refl;
      readings2 = refl;
      writings0 = refl;
      writings15 = refl;
      writings3 = refl;
      writings1 = refl;
      writings2 = refl;
      last_cell = refl;
      last_moved = refl;
      own_cells = refl;
      no_window = refl;
    }
