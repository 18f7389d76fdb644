-- `listed_hook`: an entry on the line is found or counted, another passed over; past the last entry the chain is at its end.
use Rattle.std.proofs.Common.{sym, ◌∙◌, ◌≡◌, ◌+◌, ◌-◌, suc, arith}
use Rattle.board.specs.Layout.{functions_max}
use Rattle.interrupt_array.specs.Hooks.{hooks_from, chosen}
use Rattle.interrupt_list.specs.Listing.{listed_hook}
use Rattle.interrupt_list.proofs.Listings.{turn_found, turn_counted, turn_passed}
use Rattle.interrupt_list.proofs.listing.listed_hook.Goals as goal
use Rattle.interrupt_list.proofs.listing.listed_hook.Goals.{then-is_on_line+else-before-eq0, else-is_on_line}

pub returns-then-before-eq0 : goal.returns-then-before-eq0
returns-then-before-eq0 c =
    let l = c.loop-e in
    let m : functions_max - l.e ≡ suc (functions_max - (l.e + 1)) = omega arith in
    let test = sym (rw c.hook_at-hook.ensures at c.is_on_line.ensures) ∙ c.if-is_on_line.true in
    rw c.hook_at-hook.ensures (sym (turn_found _ _ _ _ _ m _ test c.if-before-eq0.true) ∙ l.invariant.left)

pub loop-e-preserved : goal.loop-e-preserved
loop-e-preserved c =
    let l = c.loop-e in
    let m : functions_max - l.e ≡ suc (functions_max - (l.e + 1)) = omega arith in
    let test = sym (rw c.hook_at-hook.ensures at c.is_on_line.ensures) in
    record {
      within = omega arith;
      left = elim c.if-is_on_line.branch [
        | then-is_on_line+else-before-eq0 w ↦ rw w.before-is (sym (turn_counted _ _ _ _ _ m _ (test ∙ w.if-is_on_line.true) w.if-before-eq0.false) ∙ l.invariant.left)
        | else-is_on_line w ↦ rw w.before-is (sym (turn_passed _ _ _ _ _ m _ (test ∙ w.if-is_on_line.false)) ∙ l.invariant.left)
      ];
    }

pub returns : goal.returns
unfolding hooks_from chosen listed_hook
returns c =
    let l = c.loop-e in
    let e : functions_max - l.e ≡ 0 = omega arith in
    rw e at l.invariant.left
