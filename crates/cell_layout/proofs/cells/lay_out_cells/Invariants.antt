-- `lay_out_cells`: the offsets of the first s slots stand, and t is where the next one begins.
use Rattle.board.specs.Layout.{exponent}
use Rattle.cell_layout.proofs.Placing.{Placed}
use Rattle.cell_layout.proofs.cells.lay_out_cells.Given as goal

abbrev pub invariant-loop-s : goal.invariant-loop-s
invariant-loop-s l = Placed (exponent l.records) l.s l.t l.offsets
