-- `apply`: a turn stores the next number of the table.
use Rattle.std.proofs.Common.{refl, arith, length-set, ◌≡◌, ◌*◌}
use Rattle.board.specs.Layout.{functions_max, hook_size}
use Rattle.numbers.specs.Tables.{table_from}
use Rattle.numbers.proofs.Tables.{filled_more, filled_all}
use Rattle.interrupt_edit.proofs.change.apply.Goals as goal

pub loop-j-init : goal.loop-j-init
unfolding table_from
loop-j-init c = record { sized = c.told-hooks; filled = refl }

pub loop-j-preserved : goal.loop-j-preserved
loop-j-preserved c =
    let l = c.loop-j in
    record {
      sized = simp length-set l.invariant.sized;
      filled = filled_more _ l.j _ l.hooks (omega (arith, l.invariant.sized, c.loop-j-test.true)) c.number_after.ensures l.invariant.filled;
    }

pub returns : goal.returns
returns c =
    let l = c.loop-j in
    let end : l.j ≡ functions_max * hook_size = omega arith in
    filled_all _ _ l.hooks (omega (arith, l.invariant.sized)) (rw end at l.invariant.filled)
