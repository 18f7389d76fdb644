-- `restart`: each part as its step leaves it.
use Rattle.std.proofs.Common.{rules}
use lib.Seq.{length-take-le}
use Rattle.reset.specs.Reset.{restarted}
use Rattle.reset.proofs.restart.restart.Goals as goal

pub returns : goal.returns
unfolding restarted
returns c =
    let filled = c.fill.ensures.after (λ y e. search rules) in
    rw (filled, length-take-le _ c.args.cells.now c.requires, c.refresh.ensures, c.copy_registers.ensures)
