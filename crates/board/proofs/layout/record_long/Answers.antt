-- `record_long`: the four bytes stand in the flat array where the function's own record says.
use Rattle.std.proofs.Common.{◌*◌, ◌∙◌, add_assoc}
use Rattle.numbers.proofs.Numbers.{big_same}
use Rattle.board.specs.Layout.{record_size}
use Rattle.board.proofs.layout.record_long.Goals as goal

pub returns : goal.returns
returns c = c.big_at.ensures ∙ big_same 4 _ _ _ _ (λ j h. rw (add_assoc (record_size * _) _ j))
