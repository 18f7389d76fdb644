-- `total_of`: the cells before the slot past the last are those of all windows.
use Rattle.std.proofs.Common.{◌≡◌, arith}
use Rattle.board.specs.Layout.{windows_max}
use Rattle.cell_layout.proofs.cells.total_of.Goals as goal

pub returns : goal.returns
returns c =
    let l = c.loop-slot in
    let end : l.slot ≡ windows_max = omega arith in
    rw end at l.invariant.counted
