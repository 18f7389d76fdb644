-- `put_big`: a turn stores the next digit of the reversed value.
use Rattle.std.proofs.Common.{sym, ◌∙◌, arith, length-set}
use Rattle.numbers.specs.Numbers.{bytes, big_bytes}
use Rattle.numbers.proofs.Numbers.{digit_less}
use Rattle.numbers.proofs.Stores.{sets_out, store_more, store_end}
use Rattle.numbers.proofs.number.put_big.Goals as goal

pub returns-then-s-at : goal.returns-then-s-at
returns-then-s-at c = sym (sets_out _ c.args.at (big_bytes (bytes c.args.width) c.args.value) c.if-s-at.true)

pub loop-i-preserved : goal.loop-i-preserved
loop-i-preserved c =
    let l = c.loop-i in
    let h = c.loop-i-test.true in
    let e = l.invariant.digits in
    record {
      within = omega arith;
      digits = rw e (digit_less _ l.i);
      sized = rw c.put_byte.ensures (simp length-set l.invariant.sized);
      ends = rw (c.put_byte.ensures, e) (sym (store_more _ _ _ l.i l.s h) ∙ l.invariant.ends);
    }

pub returns : goal.returns
returns c =
    let l = c.loop-i in
    rw (← c.bytes-w.ensures) (sym (store_end _ _ _ l.i l.s c.loop-i-test.false) ∙ l.invariant.ends)
