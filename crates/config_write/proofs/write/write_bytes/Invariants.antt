-- `write_bytes`: the bytes still to write, from the registers as they stand, end as all of them do.
use Rattle.std.proofs.Common.{◌≡◌, ◌+◌, ◌-◌}
use Rattle.config_write.specs.Write.{registers_written}
use Rattle.config_write.proofs.write.write_bytes.Given as goal

abbrev pub invariant-loop-i : goal.invariant-loop-i
invariant-loop-i l =
    registers_written (l.w - l.i) l.records l.function (l.register + l.i) l.rest l.registers
    ≡ registers_written l.w l.records l.function l.register l.value l.fn.registers
