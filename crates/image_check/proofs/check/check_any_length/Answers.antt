-- `check_any_length`: the trailer's numbers first; once they pass, the part lent on is the records.
use Rattle.std.proofs.Common.{sym, ◌∙◌}
use Rattle.std.proofs.lemmas.Result.{err_from_is_err_and}
use Rattle.image_layout.proofs.Ranges.{range_part}
use Rattle.image_check.proofs.Accepted.{by_steps}
use Rattle.image_check.proofs.check.check_any_length.Goals as goal

pub returns-in_err-form_refusal : goal.returns-in_err-form_refusal
returns-in_err-form_refusal c =
    let form = rw c.trailer_of-t.ensures at c.form_refusal.ensures.value in
    let p = err_from_is_err_and c.from_residual.result c.from_residual.ensures.1 in
    rw (p.1, p.2) (sym (by_steps _ _ ∙ rw (← form, c.in_err-form_refusal.was)))

pub returns : goal.returns
returns c =
    let t = c.trailer_of-t.ensures in
    let form = rw t at c.form_refusal.ensures.value in
    let part = range_part c.records_range-range.result c.args.image.now (rw t at c.records_range-range.ensures) in
    let rest = rw (part, t) at c.records_verdict.ensures in
    rest ∙ sym (by_steps _ _ ∙ rw (← form, c.in_ok-form_refusal.was))
