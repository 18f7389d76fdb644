-- `run`: the parts cleared, then a turn for each call.
use Rattle.std.proofs.Common.{arith, sym, ◌∙◌}
use Rattle.script.proofs.Loop.{going_start, stopped, goes_on, loans_on}
use Rattle.script.proofs.Runs.{as_reference}
use Rattle.script.proofs.run.run.Goals as goal

pub loop-took-init : goal.loop-took-init
loop-took-init c = record { loans = c.clear.ensures.loans; going = rw c.clear.ensures.start (going_start _ _) }

pub overflow_add-at : goal.overflow_add-at
overflow_add-at c =
    let went = goes_on c.loop-took.invariant.going _ _ _ c.turn.ensures.turn c.turn.auto.script _ c.in-Some.is in
    omega (arith, went.fits, c.loop-took.invariant.going.size, c.loop-took.invariant.going.within)

pub loop-took-smaller : goal.loop-took-smaller
loop-took-smaller c =
    let went = goes_on c.loop-took.invariant.going _ _ _ c.turn.ensures.turn c.turn.auto.script _ c.in-Some.is in
    omega (arith, went.fits, went.moves, c.loop-took.invariant.going.size, c.loop-took.invariant.going.within)

pub loop-took-preserved : goal.loop-took-preserved
loop-took-preserved c =
    let went = goes_on c.loop-took.invariant.going _ _ _ c.turn.ensures.turn c.turn.auto.script _ c.in-Some.is in
    record {
      loans = loans_on _ _ _ c.loop-took.invariant.loans c.turn.ensures.loans;
      going = went.going (c.turn.ensures.loans.room ∙ c.loop-took.invariant.going.cells);
    }

pub returns-clause-run : goal.returns-clause-run
returns-clause-run c = sym (stopped c.loop-took.invariant.going _ _ _ c.turn.ensures.turn c.turn.auto.script c.in_default.is) ∙ as_reference _ _
