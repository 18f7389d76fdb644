-- `load`: the upper length first, then what `load_any_length` does.
use Rattle.std.proofs.Common.{rules}
use Rattle.image_check.specs.Check.{checked}
use Rattle.load.specs.Load.{load, load_any_length}
use Rattle.load.proofs.calls.load.Goals as goal

pub returns-then-image-gt-IMAGE-clause-outcome : goal.returns-then-image-gt-IMAGE-clause-outcome
unfolding load checked
returns-then-image-gt-IMAGE-clause-outcome c = search rules

pub returns-clause-outcome : goal.returns-clause-outcome
unfolding load load_any_length checked
returns-clause-outcome c = search rules
