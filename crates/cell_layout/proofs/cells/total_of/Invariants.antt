-- `total_of`: the cells counted so far are those before the slot reached.
use Rattle.std.proofs.Common.{◌≡◌, ◌*◌, ◌≤◌}
use Rattle.board.specs.Layout.{exponent}
use Rattle.cell_layout.specs.Cells.{cells_before}
use Rattle.cell_layout.proofs.cells.total_of.Given as goal

abbrev pub invariant-loop-slot : goal.invariant-loop-slot
invariant-loop-slot l = record {
  counted : l.n ≡ cells_before (exponent l.records) l.slot;
  bound : l.n ≤ 65536 * l.slot;
}
