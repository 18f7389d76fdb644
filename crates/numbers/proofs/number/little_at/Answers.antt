-- `little_at`: the bytes handed to `number` are those that the definition reads, and a byte that is
-- not read counts 0.
use Rattle.std.proofs.Common.{sym, ◌+◌, ◌%◌}
use native.Mathlib.Nat.{add-zero}
use Rattle.numbers.specs.Numbers.{little, byte_at}
use Rattle.numbers.proofs.Numbers.{little_from}
use Rattle.numbers.proofs.number.little_at.Goals as goal

pub returns-in-Byte : goal.returns-in-Byte
unfolding little
returns-in-Byte c =
    rw (c.in-Byte.is, c.number.ensures, c.byte_after-a.ensures)
    (sym (little_from 1 (byte_at c.args.s.now) c.args.at))

pub returns-in-Word : goal.returns-in-Word
unfolding little
returns-in-Word c =
    rw (c.in-Word.is, c.number-in-Word.ensures, c.byte_after.ensures, c.byte_after-a.ensures)
    (sym (little_from 2 (byte_at c.args.s.now) c.args.at))

pub returns-in-Long : goal.returns-in-Long
unfolding little
returns-in-Long c =
    rw (
      c.in-Long.is,
      c.number-in-Long.ensures,
      c.byte_after-in-Long-3.ensures,
      c.byte_after-in-Long-2.ensures,
      c.byte_after-in-Long.ensures,
      c.byte_after-a.ensures,
      ← add-zero (byte_at c.args.s.now (c.args.at + 3) % 256),
    )
    (sym (little_from 4 (byte_at c.args.s.now) c.args.at))
