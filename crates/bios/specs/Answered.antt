-- What C is handed of a get used and of a conversion, accepted or refused: number and values of the
-- call's own answer, whose filler the claim `Refusal` (crate reference) speaks of.
use Rattle.std.specs.Prelude.{◌≡◌, get_or, Result}
use Rattle.board.specs.declared.address.BusAddress.{BusAddress}
use Rattle.board.specs.declared.address.CpuAddress.{CpuAddress}
use Rattle.board.specs.declared.status.CallRefusal.{CallRefusal}
use Rattle.card_used.specs.declared.used.Mark.{Mark}
use Rattle.call.specs.declared.answer.Answer.{Answer}
use Rattle.call.specs.Answers.{of_to_cpu, of_to_bus, of_used}
use Rattle.bios.specs.Exports.{
  UsedNumbers,
  used_numbers,
  used_shown,
  ReadNumbers,
  read_numbers,
  to_cpu_shown,
  to_bus_shown,
}

-- the number of an answer, and its first value or its first two
abbrev pub one_of : Answer → ReadNumbers
one_of a = read_numbers a.number (get_or a.values 0 0)

abbrev pub two_of : Answer → UsedNumbers
two_of a = used_numbers a.number (get_or a.values 0 0) (get_or a.values 1 0)

pub record AsAnswered : Type 0 where
  pub to_cpu : (r : Result CpuAddress CallRefusal) → to_cpu_shown r ≡ one_of (of_to_cpu r)
  pub to_bus : (r : Result BusAddress CallRefusal) → to_bus_shown r ≡ one_of (of_to_bus r)
  pub used : (r : Result Mark CallRefusal) → used_shown r ≡ two_of (of_used r)
