-- `run`: a turn for each call; what is left to do is the whole of the work.
use Rattle.std.proofs.Common.{◌-◌, length}
use Rattle.board.specs.Parts.{parts_lent, SameLoans}
use Rattle.reference.specs.Run.{start}
use Rattle.script.proofs.Loop.{Going}
use Rattle.script.proofs.run.run.Given as goal

abbrev pub invariant-loop-took : goal.invariant-loop-took
invariant-loop-took l = record {
  loans : SameLoans l.fn.board l.board;
  going : Going l.fn.script (start l.fn.board.cells.now) l.script (parts_lent l.board) l.at;
}

abbrev pub decreases-loop-took : goal.decreases-loop-took
decreases-loop-took l = length l.fn.script - l.at
