-- `lay_out_cells`: a turn stores where its slot's cells begin; the total is stored last.
use Rattle.std.proofs.Common.{arith}
use Rattle.cell_layout.proofs.Placing.{placed_none, placed_more, placed_all}
use Rattle.cell_layout.proofs.cells.lay_out_cells.Goals as goal

pub loop-s-init : goal.loop-s-init
loop-s-init c = placed_none _ _ (omega arith)

pub loop-s-preserved : goal.loop-s-preserved
loop-s-preserved c =
    let l = c.loop-s in
    let n = c.slot_cells-t.ensures in
    placed_more _ l.s l.t _ l.offsets c.loop-s-test.true l.invariant n.value n.upper_bound

pub returns : goal.returns
returns c =
    let l = c.loop-s in
    placed_all _ l.s l.t l.offsets c.loop-s-test.false l.invariant
