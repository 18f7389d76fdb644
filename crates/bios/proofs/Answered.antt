-- What C is handed of a get used and of a conversion is the call's own answer: by the two cases of
-- each.
use mathlib.Core.Path.{◌≡◌, refl}
use Rattle.std.specs.Prelude.{get_or, Result, Ok, Err}
use Rattle.board.specs.declared.address.BusAddress.{BusAddress}
use Rattle.board.specs.declared.address.CpuAddress.{CpuAddress}
use Rattle.board.specs.declared.status.CallRefusal.{CallRefusal}
use Rattle.card_used.specs.declared.used.Mark.{Mark}
use Rattle.call.specs.Answers.{of_to_cpu, of_to_bus, of_used}
use Rattle.bios.specs.Exports.{used_numbers, used_shown, read_numbers, to_cpu_shown, to_bus_shown}
use Rattle.bios.specs.Answered.{one_of, two_of, AsAnswered}

cpu_answered : (r : Result CpuAddress CallRefusal) → to_cpu_shown r ≡ one_of (of_to_cpu r)
cpu_answered (Ok a) = refl
cpu_answered (Err refusal) = refl

bus_answered : (r : Result BusAddress CallRefusal) → to_bus_shown r ≡ one_of (of_to_bus r)
bus_answered (Ok a) = refl
bus_answered (Err refusal) = refl

used_answered : (r : Result Mark CallRefusal) → used_shown r ≡ two_of (of_used r)
used_answered (Ok m) = refl
used_answered (Err refusal) = refl

-- LAW: what C is handed is what the answer says
pub as_answered : AsAnswered
as_answered = record { to_cpu = cpu_answered; to_bus = bus_answered; used = used_answered }
