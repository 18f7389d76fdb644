-- The rows, worked out.
use mathlib.Core.Path.{refl}
use Rattle.numbers.specs.Tables.{table_from}
use Rattle.cell_layout.specs.Cells.{cells_before}
use Rattle.cell_layout.specs.Rows.{CellLayoutRows}

pub cell_layout_rows : CellLayoutRows
unfolding cells_before table_from
cell_layout_rows =
    record {
      lengths = refl;
      totals = refl;
      beginnings = refl;
      kept = refl;
      zeros = refl;
    }
