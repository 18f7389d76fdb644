-- `window_number`: the tests are the definition's, in its order, and the fields are the window's.
use Rattle.std.proofs.Common.{◌≡◌, ℕ, zero, suc, ◌%◌, ◌<◌, cond, eqb, ap, sym, ◌∙◌, refl, arith, Some}
use native.Mathlib.Nat.{add-zero}
use borrow.Author.Tests.{ne_eqb}
use Rattle.window.specs.Kept.{pack}
use Rattle.window.proofs.decode.window_number.Goals as goal

-- bit 0 tells the space
bit : (b : ℕ) → b < 2 → cond (eqb b 1) 1 0 ≡ b
bit zero h = refl
bit (suc zero) h = refl
bit (suc (suc b)) h = absurd (omega arith)

pub returns : goal.returns
unfolding pack
returns c =
    let x = c.args.x in
    let space = bit (x % 2) (omega arith) in
    ap Some c.packed.ensures
    ∙ simp (
      c.window_length.ensures.0,
      sym c.is_window.ensures ∙ c.if-not-is_window.false,
      space,
      rw space at (sym c.command_bit.ensures ∙ c.if-not-command_bit.false),
      ne_eqb _ _ (λ z. c.if-start-eq0.false (c.start-start.ensures ∙ z)),
      c.start-start.ensures,
      add-zero,
    )
