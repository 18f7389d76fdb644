-- `get_resource`: the checks in their order, then the descriptors.
use Rattle.std.proofs.Common.{arith}
use Rattle.board.specs.Layout.{bases, exponent}
use Rattle.resource.proofs.Turns.{windows_few}
use Rattle.resource.proofs.resource.get_resource.Goals as goal

pub overflow_mul-count : goal.overflow_mul-count
overflow_mul-count c =
    let k = exponent c.args.records.now c.place.result in
    omega (arith, c.window_count-count.ensures, windows_few k bases 0)
