-- `list_window`: the count of windows tells the end, and before it the number at the index says the
-- window.
use Rattle.std.proofs.Common.{arith}
use Rattle.window_listing.proofs.Answers.{lists_past, lists_at, within}
use Rattle.window_listing.proofs.listing.list_window.Goals as goal

pub returns-then-kept_count-n : goal.returns-then-kept_count-n
returns-then-kept_count-n c = lists_past _ _ (omega (arith, c.kept_count.ensures, c.if-kept_count-n.true))

pub bounds-windows-n : goal.bounds-windows-n
bounds-windows-n c =
    let h = within c.args.windows.now in
    omega (arith, c.kept_count.ensures, c.if-kept_count-n.false, c.fits-windows)

pub returns : goal.returns
returns c = lists_at _ _ _ (omega (arith, c.kept_count.ensures, c.if-kept_count-n.false)) c.read_window.ensures
