-- `start_in`: the numbers still to come are searched as the whole list is.
use Rattle.std.proofs.Common.{◌≡◌, drop}
use Rattle.window.specs.Kept.{unpacked}
use Rattle.window_start.specs.Start.{start_in}
use Rattle.window_start.proofs.start.start_in.Given as goal

abbrev pub invariant-loop-w : goal.invariant-loop-w
invariant-loop-w l = start_in (unpacked (drop l.w-index l.list)) l.handle l.base ≡ start_in (unpacked l.list) l.handle l.base
