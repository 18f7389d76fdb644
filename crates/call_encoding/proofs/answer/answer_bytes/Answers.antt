-- `answer_bytes`: number, flag, values and length put at their positions among zeros.
use Rattle.std.proofs.Common.{rules}
use Rattle.call_encoding.proofs.Bytes.{answer_put}
use Rattle.call_encoding.proofs.answer.answer_bytes.Goals as goal

pub returns : goal.returns
returns c =
    answer_put c.args.answer c.args.own c.bits.result c.from.result (search rules) (search rules)
    c.put_big.ensures c.put_value.ensures c.put_value-2.ensures c.put_value-3.ensures c.put_value-4.ensures c.put_value-5.ensures c.put_value-6.ensures c.put_big-2.ensures
