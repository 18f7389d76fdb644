-- `position_for`: an entry up to the line is the last, another is not.
use Rattle.std.proofs.Common.{sym, ◌∙◌, ◌≡◌, ◌+◌, ◌-◌, arith}
use Rattle.interrupt_hook.specs.Chain.{past_last}
use Rattle.interrupt_hook.proofs.Positions.{past_here, past_on}
use Rattle.interrupt_hook.proofs.position.position_for.Goals as goal

pub returns-then-is_up_to_line : goal.returns-then-is_up_to_line
returns-then-is_up_to_line c =
    let l = c.loop-e in
    let e : l.e - 1 + 1 ≡ l.e = omega arith in
    let test = sym (rw c.hook_at.ensures at c.is_up_to_line.ensures) ∙ c.if-is_up_to_line.true in
    rw e (sym (past_here _ l.e c.loop-e-test.true test) ∙ l.invariant.left)

pub loop-e-preserved : goal.loop-e-preserved
loop-e-preserved c =
    let l = c.loop-e in
    let test = sym (rw c.hook_at.ensures at c.is_up_to_line.ensures) ∙ c.if-is_up_to_line.false in
    record {
      within = omega arith;
      left = sym (past_on _ l.e c.loop-e-test.true test) ∙ l.invariant.left;
    }

pub returns : goal.returns
unfolding past_last
returns c =
    let l = c.loop-e in
    let e : l.e ≡ 0 = omega arith in
    rw e at l.invariant.left
