-- `position_of`: the range's `find` gives the first entry with the handle, and there is one such position.
use Rattle.std.proofs.Common.{rules, tests, ℕ, ◌≡◌, true, false, eqb}
use Rattle.std.proofs.lemmas.Iterator.{first_from_Range}
use Rattle.board.specs.Layout.{functions_max}
use Rattle.interrupt_array.specs.Hooks.{hook_at}
use Rattle.interrupt_hook.proofs.Positions.{find_first}
use Rattle.interrupt_hook.proofs.position.position_of.Goals as goal

pub returns : goal.returns
returns c =
    let a = c.args in
    let t = λ (e : ℕ). eqb (hook_at a.hooks.now e).handle a.handle in
    find_first t functions_max _
    (first_from_Range _ _ _ _ (λ e. t e ≡ true) (λ e. t e ≡ false) c.find.ensures.ran (λ x q k. search (rules, tests)) (λ x q k. search (rules, tests)))
