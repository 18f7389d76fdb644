-- What is asked of a call's kind by more than one definition.
use Rattle.std.specs.Prelude.{Bool, true, false}
use Rattle.call.specs.declared.call.Access.{Access}
use Rattle.call.specs.declared.call.Access.TheVariants.{Read, FastRead, Write}

-- whether an access writes
abbrev pub writes : Access → Bool
writes Read = false
writes FastRead = false
writes (Write value) = true
