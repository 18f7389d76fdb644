-- `listed_hook`: the index among the entries still to come, with the hooks still to pass over, answers as the whole chain does.
use Rattle.std.proofs.Common.{◌-◌, ◌≡◌, ◌≤◌}
use Rattle.board.specs.Layout.{functions_max}
use Rattle.interrupt_array.specs.Hooks.{hook_at, hooks_from, chosen, on_line, chain_of}
use Rattle.interrupt_list.specs.Listing.{listed_hook}
use Rattle.interrupt_list.proofs.listing.listed_hook.Given as goal

abbrev pub invariant-loop-e : goal.invariant-loop-e
invariant-loop-e l = record {
  within : l.e ≤ functions_max;
  left : listed_hook (chosen (on_line l.records l.line) (hooks_from l.e (functions_max - l.e) (hook_at l.hooks))) l.before ≡ listed_hook (chain_of l.records l.hooks l.line) l.index;
}
