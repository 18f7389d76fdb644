-- `write_config`: an accepted access is for a function of the table, and passes no register.
use Rattle.std.proofs.Common.{sym}
use Rattle.numbers.specs.Numbers.{bytes}
use Rattle.config_read.proofs.Targets.{inside_table, inside_registers}
use Rattle.config_write.proofs.write.write_config.Goals as goal

pub write_bytes-requires : goal.write_bytes-requires
write_bytes-requires c =
    let e = sym c.in_ok-function.ensures in
    let a = c.args in (
      inside_table a.header.now (bytes a.width) a.handle a.register _ e,
      rw c.bytes-w.ensures (inside_registers _ _ _ _ _ e),
    )
