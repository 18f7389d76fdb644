-- `front`: a header that says a call whose own buffer fits, or no call.
use Rattle.std.proofs.Common.{arith, sym, ap, ◌∙◌}
use Rattle.call_encoding.specs.Format.{decoded}
use Rattle.script.proofs.Fronts.{front_short, front_other, front_cut, front_whole}
use Rattle.script.proofs.turn.front.Goals as goal

pub returns-in_err-header : goal.returns-in_err-header
returns-in_err-header c = c.from_residual.ensures ∙ front_short _ c.in_err-header.ensures.cases

pub returns-in_err-said : goal.returns-in_err-said
returns-in_err-said c =
    let split = c.in_ok-header.ensures.cases in
    c.from_residual-in_err-said.ensures
    ∙ front_other _ split.0 (ap decoded (sym split.1) ∙ sym c.decode.ensures ∙ c.in_err-said.was)

pub returns-then-rest-said : goal.returns-then-rest-said
returns-then-rest-said c =
    let split = c.in_ok-header.ensures.cases in
    front_cut _ split.0 {c = c.in_ok-said.said.call} (ap decoded (sym split.1) ∙ sym c.decode.ensures ∙ c.in_ok-said.was)
    (omega (arith, split.4, c.if-rest-said.true))

pub returns : goal.returns
returns c =
    let split = c.in_ok-header.ensures.cases in
    front_whole _ split.0 {c = c.in_ok-said.said.call} (ap decoded (sym split.1) ∙ sym c.decode.ensures ∙ c.in_ok-said.was)
    (omega (arith, split.4, c.if-rest-said.false))
