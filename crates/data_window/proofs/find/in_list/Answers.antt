-- `in_list`: a turn looks at one number, and the law of its kind says what the list gives.
use Rattle.std.proofs.Common.{sym, ◌∙◌}
use Rattle.board.proofs.Handles.{place_below}
use Rattle.data_window.proofs.Searches.{list_none, list_here, list_on, list_end}
use Rattle.data_window.proofs.find.in_list.Goals as goal

pub returns-then-is_end : goal.returns-then-is_end
returns-then-is_end c =
    sym (list_none _ _ _ _ _ c.loop-w.w-index c.loop-w-test.true (sym c.is_end.ensures ∙ c.if-is_end.true)) ∙ c.loop-w.invariant

pub returns-then-holds : goal.returns-then-holds
returns-then-holds c =
    c.check_window.ensures
    ∙ rw (c.place_of_handle.ensures ∙ place_below _ c.requires c.ranges.handle.fits)
    (sym (list_here _ _ _ _ _ c.loop-w.w-index c.loop-w-test.true (sym c.is_end.ensures ∙ c.if-is_end.false) (sym c.holds.ensures ∙ c.if-holds.true)))
    ∙ c.loop-w.invariant

pub loop-w-preserved : goal.loop-w-preserved
loop-w-preserved c =
    sym (list_on _ _ _ _ _ c.loop-w.w-index c.loop-w-test.true (sym c.is_end.ensures ∙ c.if-is_end.false) (sym c.holds.ensures ∙ c.if-holds.false))
    ∙ c.loop-w.invariant

pub returns : goal.returns
returns c = sym (list_end _ _ _ _ _ c.loop-w.w-index c.loop-w-test.false) ∙ c.loop-w.invariant
