-- `copy_registers`: no register stands at first, and after the last function all do.
use Rattle.std.proofs.Common.{◌≡◌, ◌*◌, ◌∙◌, refl, drop, length-drop, arith}
use lib.Seq.{length-take-le}
use Rattle.board.specs.Layout.{functions_max, registers_each}
use Rattle.numbers.specs.Tables.{table_from}
use Rattle.numbers.proofs.Tables.{filled_all}
use Rattle.reset.specs.Reset.{registers_of}
use Rattle.reset.proofs.Copied.{copied, copied_length}
use Rattle.reset.proofs.restart.copy_registers.Goals as goal

pub loop-function-init : goal.loop-function-init
unfolding table_from
loop-function-init c = record { room = omega arith; stands = refl }

pub loop-function-preserved : goal.loop-function-preserved
loop-function-preserved c =
    let l = c.loop-function in
    let r = c.args.records.now in
    let turn = c.loop-function-test.true in
    record {
      room = copied_length _ _ l.registers _ (omega arith)
          (c.copy_from_slice.ensures.len ∙ length-take-le _ (drop (registers_each * l.function) l.registers) (rw length-drop (omega arith)))
          ∙ l.invariant.room;
      stands = rw c.copy_from_slice.ensures.after
          (copied r l.registers l.function _ _ turn (omega arith) l.invariant.room (omega arith) l.invariant.stands);
    }

pub returns : goal.returns
unfolding registers_of
returns c =
    let l = c.loop-function in
    let all : registers_each * l.function ≡ functions_max * registers_each = omega arith in
    filled_all _ (functions_max * registers_each) l.registers (omega arith) (rw all at l.invariant.stands)
