-- `start_in`: the list ends, the window is found, or another window is passed over.
use Rattle.std.proofs.Common.{sym, ◌∙◌}
use Rattle.window_start.proofs.Starts.{start_none, start_here, start_on, start_end}
use Rattle.window_start.proofs.start.start_in.Goals as goal

pub returns-then-is_end : goal.returns-then-is_end
returns-then-is_end c =
    sym (start_none _ _ _ c.loop-w.w-index c.loop-w-test.true (sym c.is_end.ensures ∙ c.if-is_end.true)) ∙ c.loop-w.invariant

pub returns-then-is_of : goal.returns-then-is_of
returns-then-is_of c =
    c.shown_start.ensures
    ∙ sym (start_here _ _ _ c.loop-w.w-index c.loop-w-test.true (sym c.is_end.ensures ∙ c.if-is_end.false) (sym c.is_of.ensures ∙ c.if-is_of.true))
    ∙ c.loop-w.invariant

pub loop-w-preserved : goal.loop-w-preserved
loop-w-preserved c =
    sym (start_on _ _ _ c.loop-w.w-index c.loop-w-test.true (sym c.is_end.ensures ∙ c.if-is_end.false) (sym c.is_of.ensures ∙ c.if-is_of.false))
    ∙ c.loop-w.invariant

pub returns : goal.returns
returns c = sym (start_end _ _ _ c.loop-w.w-index c.loop-w-test.false) ∙ c.loop-w.invariant
