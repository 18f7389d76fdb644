-- `entry_ok`: the tests in the definition's order; an exponent that passes them is at most 16, so
-- the power of two is the window's size.
use Rattle.std.proofs.Common.{sym, ◌∙◌, ◌^◌, ◌≡◌, true, arith}
use borrow.Author.Tests.{eq-eqb, ne_eqb}
use Rattle.numbers.proofs.Numbers.{power_small}
use Rattle.image_entry.specs.Entry.{entry_ok, form_ok}
use Rattle.image_entry.proofs.Entries.{form_exponent}
use Rattle.image_entry.proofs.entry.entry_ok.Goals as goal

pub returns-then-e-eq0 : goal.returns-then-e-eq0
unfolding entry_ok
returns-then-e-eq0 c = c.empty_ok.ensures ∙ simp (eq-eqb c.args.e.exponent 0 (omega arith))

pub returns-then-not-form_ok : goal.returns-then-not-form_ok
unfolding entry_ok
returns-then-not-form_ok c = simp (ne_eqb _ _ c.if-e-eq0.false, sym c.if-not-form_ok.ensures)

pub returns : goal.returns
unfolding entry_ok
returns c =
    let e = c.args.e in
    let good : form_ok e ≡ true = sym c.if-not-form_ok.ensures in
    let size : c.power-size.result ≡ 2 ^ e.exponent = c.power-size.ensures ∙ rw c.from.ensures (power_small e.exponent (form_exponent e good)) in
    rw (c.window_ok.ensures, size, ne_eqb _ _ c.if-e-eq0.false, good)
