-- `record_at`: the part that is lent has the length of a record.
use Rattle.std.proofs.Math.Nat.{add-sub_cancel_left}
use Rattle.image_check.proofs.check.record_at.Goals as goal

pub returns : goal.returns
returns c = rw add-sub_cancel_left
