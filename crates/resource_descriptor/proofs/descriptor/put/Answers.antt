-- `put`: the fields one after the other.
use Rattle.std.proofs.Common.{sym}
use Rattle.numbers.proofs.Stores.{sets_out}
use Rattle.resource_descriptor.specs.Descriptor.{descriptor_bytes}
use Rattle.resource_descriptor.proofs.Fields.{stored_fields}
use Rattle.resource_descriptor.proofs.descriptor.put.Goals as goal

pub returns-then-out-at : goal.returns-then-out-at
returns-then-out-at c = sym (sets_out _ c.args.at (descriptor_bytes c.args.d) c.if-out-at.true)

pub returns : goal.returns
returns c =
    rw (
      c.put_big-6.ensures,
      c.put_big-5.ensures,
      c.put_big-4.ensures,
      c.put_big-3.ensures,
      c.put_big-2.ensures,
      c.put_big.ensures,
      c.from-2.ensures,
      c.from.ensures,
    )
    (stored_fields _ _ _)
