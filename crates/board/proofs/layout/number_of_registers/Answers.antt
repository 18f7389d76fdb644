-- `number_of_registers`: the bytes stand in the flat array where the function's own registers say.
use Rattle.std.proofs.Common.{◌*◌, ◌∙◌, add_assoc}
use Rattle.numbers.proofs.Numbers.{little_same}
use Rattle.board.proofs.layout.number_of_registers.Goals as goal

pub returns : goal.returns
returns c = c.little_at.ensures ∙ little_same _ _ _ _ _ (λ j h. rw (add_assoc (256 * _) _ j))
