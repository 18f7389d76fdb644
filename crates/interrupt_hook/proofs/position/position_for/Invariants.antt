-- `position_for`: the position after the last among the entries still to come is that among all.
use Rattle.std.proofs.Common.{◌≡◌, ◌≤◌}
use Rattle.board.specs.Layout.{functions_max}
use Rattle.interrupt_array.specs.Hooks.{hook_at}
use Rattle.interrupt_hook.specs.Chain.{past_last, up_to_line, position_for}
use Rattle.interrupt_hook.proofs.position.position_for.Given as goal

abbrev pub invariant-loop-e : goal.invariant-loop-e
invariant-loop-e l = record {
  within : l.e ≤ functions_max;
  left : past_last (λ i. up_to_line l.records l.line (hook_at l.hooks i)) l.e ≡ position_for l.records l.hooks l.line;
}
