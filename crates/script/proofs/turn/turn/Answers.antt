-- `turn`: the own buffer lent where it stands, and the answer written over the header.
use Rattle.std.proofs.Common.{arith, sym, ◌∙◌, ap, length, length-take-le}
use Rattle.call_encoding.specs.Format.{call_header_size}
use Rattle.script.proofs.Fronts.{whole, answer_length, header_room, turn_none, turn_done}
use Rattle.script.proofs.turn.turn.Goals as goal

pub slice_bounds-perform-end : goal.slice_bounds-perform-end
slice_bounds-perform-end c =
    let w = whole _ c.in_ok-call.field-0.call _ (sym c.front.ensures ∙ c.in_ok-call.was) in
    omega (arith, w.enough, w.fits)

pub returns-in_err-call-clause-turn : goal.returns-in_err-call-clause-turn
returns-in_err-call-clause-turn c = rw c.from_residual.ensures (turn_none _ _ (sym c.front.ensures ∙ c.in_err-call.was))

pub slice_bounds-copy_from_slice-end : goal.slice_bounds-copy_from_slice-end
slice_bounds-copy_from_slice-end c =
    header_room c.args.script.now _ (whole _ c.in_ok-call.field-0.call _ (sym c.front.ensures ∙ c.in_ok-call.was)).enough

pub slice_bounds-copy_from_slice-end-2 : goal.slice_bounds-copy_from_slice-end-2
slice_bounds-copy_from_slice-end-2 c =
    sym (length-take-le call_header_size _ (header_room c.args.script.now _
    (whole _ c.in_ok-call.field-0.call _ (sym c.front.ensures ∙ c.in_ok-call.was)).enough))

pub copy_from_slice-requires : goal.copy_from_slice-requires
copy_from_slice-requires c =
    length-take-le call_header_size _ (header_room c.args.script.now _
    (whole _ c.in_ok-call.field-0.call _ (sym c.front.ensures ∙ c.in_ok-call.was)).enough)
    ∙ sym (ap length c.answer_bytes.ensures ∙ answer_length _ _)

pub returns-clause-turn : goal.returns-clause-turn
returns-clause-turn c =
    turn_done _ _ _ _ c.in_ok-call.field-0.call _ _ (sym c.front.ensures ∙ c.in_ok-call.was)
    c.perform-answer.ensures.step (c.copy_from_slice.ensures.after ∙ c.answer_bytes.ensures)
