-- `descriptor_at`: two bytes make a number of 16 bits.
use Rattle.std.proofs.Common.{◌+◌, arith}
use Rattle.numbers.specs.Numbers.{byte_at}
use Rattle.numbers.proofs.Numbers.{big_below}
use Rattle.resource_walk.proofs.step.descriptor_at.Goals as goal

pub overflow_cast-result : goal.overflow_cast-result
overflow_cast-result c = omega (arith, c.big_at.ensures, big_below 2 (byte_at c.args.bytes.now) c.args.at)

pub overflow_cast-result-2 : goal.overflow_cast-result-2
overflow_cast-result-2 c = omega (arith, c.big_at-2.ensures, big_below 2 (byte_at c.args.bytes.now) (c.args.at + 2))
