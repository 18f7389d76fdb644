-- `records_verdict`: the tests are the definition's, in its order, of what the calls work out.
use Rattle.std.proofs.Common.{◌∙◌, arith}
use borrow.Author.Tests.{eq-eqb, ne_eqb, lt-ltb, le-ltb}
use Rattle.image_layout.proofs.Lists.{sum_whole}
use Rattle.image_check.proofs.check.records_verdict.Goals as goal

pub returns-then-sum_of-said : goal.returns-then-sum_of-said
returns-then-sum_of-said c =
    let s = c.sum_of.result in
    let e = c.sum_of.ensures ∙ sum_whole c.args.records.now (omega arith) in
    simp (← e, ne_eqb s c.args.said (λ z. omega (arith, c.if-sum_of-said.true)))

pub returns-in-Some : goal.returns-in-Some
returns-in-Some c =
    let a = c.args in
    let s = c.sum_of.result in
    let e = c.sum_of.ensures ∙ sum_whole a.records.now (omega arith) in
    let found = c.in-Some.ensures in
    simp (← e, eq-eqb s a.said (omega arith), found.1, lt-ltb c.in-Some.place a.count found.0)

pub returns : goal.returns
returns c =
    let a = c.args in
    let s = c.sum_of.result in
    let e = c.sum_of.ensures ∙ sum_whole a.records.now (omega arith) in
    let none = c.in_default.ensures in
    c.cells_verdict.ensures
    ∙ simp (← e, eq-eqb s a.said (omega arith), none, le-ltb a.count a.count (omega arith), c.total_of.ensures)
