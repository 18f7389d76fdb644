-- `window_count`: the chain counts the base registers that have a window.
use Rattle.std.proofs.Common.{rules, ◌∙◌, arith}
use Rattle.std.proofs.lemmas.Iterator.{YieldsList-from_range}
use Rattle.std.proofs.lemmas.Iterator.Consumers.{count_from_yields_List, YieldsList-from_filter}
use Rattle.board.specs.Layout.{bases, exponent}
use Rattle.window.specs.Window.{is_window}
use Rattle.resource.proofs.Turns.{windows_filtered}
use Rattle.resource.proofs.resource.window_count.Goals as goal

pub returns : goal.returns
returns c =
    let k = exponent c.args.records.now c.args.function in
    count_from_yields_List _ _ c.count.ensures.ran
    (YieldsList-from_filter _ (λ b. is_window (k b)) (YieldsList-from_range 0 bases bases c.filter.ensures.source (omega arith)) c.filter.ensures.closure (λ x b q h. search rules))
    ∙ rw (windows_filtered k bases 0)
