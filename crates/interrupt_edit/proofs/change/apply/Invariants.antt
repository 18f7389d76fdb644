-- `apply`: the first j numbers stand as the table says.
use Rattle.std.proofs.Common.{◌*◌, ◌≡◌, length, take}
use Rattle.numbers.specs.Tables.{table}
use Rattle.board.specs.Layout.{functions_max, hook_size}
use Rattle.interrupt_array.specs.Hooks.{hook_at, array_number}
use Rattle.interrupt_edit.specs.Changes.{after_change}
use Rattle.interrupt_edit.proofs.change.apply.Given as goal

abbrev pub invariant-loop-j : goal.invariant-loop-j
invariant-loop-j l = record {
  sized : length l.hooks ≡ functions_max * hook_size;
  filled : take l.j l.hooks ≡ table l.j (array_number (after_change l.change (hook_at l.old)));
}
