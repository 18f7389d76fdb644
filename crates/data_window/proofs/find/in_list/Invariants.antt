-- `in_list`: the numbers still to come are judged as the whole list is.
use Rattle.std.proofs.Common.{drop, ◌-◌, ◌≡◌}
use Rattle.board.specs.Layout.{widths}
use Rattle.board.specs.Spaces.{space_number}
use Rattle.numbers.specs.Numbers.{bytes}
use Rattle.window.specs.Kept.{unpacked}
use Rattle.data_window.specs.Find.{offers, in_list}
use Rattle.data_window.proofs.find.in_list.Given as goal

abbrev pub invariant-loop-w : goal.invariant-loop-w
invariant-loop-w l =
    in_list (λ b. offers (bytes l.width) (widths l.records (l.handle - 1) b)) (space_number l.space) l.handle l.address (unpacked (drop l.w-index l.list))
    ≡ in_list (λ b. offers (bytes l.width) (widths l.records (l.handle - 1) b)) (space_number l.space) l.handle l.address (unpacked l.list)
