-- `copy_registers`: the registers of the functions before this one stand as the table says.
use Rattle.std.proofs.Common.{◌≡◌, ◌*◌, length, take}
use Rattle.board.specs.Layout.{functions_max, registers_each}
use Rattle.reset.specs.Reset.{first_registers}
use Rattle.reset.proofs.restart.copy_registers.Given as goal

abbrev pub invariant-loop-function : goal.invariant-loop-function
invariant-loop-function l = record {
  room : length l.registers ≡ functions_max * registers_each;
  stands : take (registers_each * l.function) l.registers ≡ first_registers l.records (registers_each * l.function);
}
