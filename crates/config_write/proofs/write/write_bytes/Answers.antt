-- `write_bytes`: a turn writes the next byte; at the end none is left.
use Rattle.std.proofs.Common.{◌≡◌, ◌+◌, ◌-◌, suc, arith}
use Rattle.config_write.specs.Write.{bytes_written}
use Rattle.config_write.proofs.write.write_bytes.Goals as goal

pub loop-i-preserved : goal.loop-i-preserved
unfolding bytes_written
loop-i-preserved c =
    let l = c.loop-i in
    let a = c.args in
    let e : a.w - l.i ≡ suc (a.w - (l.i + 1)) = omega arith in
    let p : a.register + (l.i + 1) ≡ a.register + l.i + 1 = omega arith in
    rw (c.write_byte.ensures, p) (rw e at l.invariant)

pub returns : goal.returns
unfolding bytes_written
returns c =
    let l = c.loop-i in
    let e : c.args.w - l.i ≡ 0 = omega arith in
    rw e at l.invariant
