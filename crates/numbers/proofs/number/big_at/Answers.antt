-- `big_at`: the same bytes least first, reversed.
use Rattle.std.proofs.Common.{◌∙◌}
use Rattle.numbers.proofs.Numbers.{reversed_little}
use Rattle.numbers.proofs.number.big_at.Goals as goal

pub returns : goal.returns
returns c = c.reversed.ensures ∙ rw c.little_at.ensures (reversed_little _ _ _)
