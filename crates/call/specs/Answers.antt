-- Answers as numbers: document 01, "Numbers handed back". They are rules on plain values, which the
-- program's step and the reference machine share.
use Rattle.std.specs.Prelude.{ℕ, Bool, true, false, not, List, ◌∷◌, ◌++◌, ℤ, pos, negsuc, replicate, Result, Ok, Err}
use Rattle.numbers.specs.Numbers.{is_zero}
use Rattle.board.specs.Statuses.{Status, refusal_number, number_of}
use Rattle.board.specs.Reads.{Read, value_of}
use Rattle.board.specs.declared.address.BusAddress.{BusAddress}
use Rattle.board.specs.declared.address.CpuAddress.{CpuAddress}
use Rattle.board.specs.declared.status.CallRefusal.{CallRefusal}
use Rattle.board.specs.declared.read.FastRead.{FastRead}
use Rattle.card_used.specs.declared.used.Mark.{Mark}
use Rattle.image_refusals.specs.Refusals.{Verdict, verdict_number, verdict_place}
use Rattle.call.specs.declared.answer.Answer.{Answer}

-- numbers other than 0 refuse; a search, whose number may be a handle, has a rule of its own below
abbrev pub refuses : ℤ → Bool
refuses z = not (is_zero z)

abbrev pub answer : ℤ → List ℕ → Answer
answer number values = record { number = number; refused = refuses number; values = values }

-- no values
abbrev pub zeros : List ℕ
zeros = replicate 6 0

abbrev pub of_status : Status → Answer
of_status s = answer (number_of s) zeros

-- one value
abbrev pub one : ℕ → List ℕ
one v = v ∷ replicate 5 0

-- a load's number, and the place that it returns; the writer's, which returns none
abbrev pub of_verdict : Verdict → Answer
of_verdict v = answer (verdict_number v) (one (verdict_place v))

-- a search's number: the handle, or below 0 the refusal
abbrev pub below : ℤ → Bool
below (pos n) = false
below (negsuc n) = true

abbrev pub of_search : ℤ → Answer
of_search number = record { number = number; refused = below number; values = zeros }

-- a read's number and value
abbrev pub of_read : Read → Answer
of_read r = answer (number_of r) (one (value_of r))

-- a fast read hands back its value and the fault flag, and no number
abbrev pub of_fast_read : FastRead → Answer
of_fast_read r = record { number = pos 0; refused = r.fault; values = one r.value }

-- a conversion's number and address
abbrev pub of_to_cpu : Result CpuAddress CallRefusal → Answer
of_to_cpu (Ok a) = answer (pos 0) (one a.0)
of_to_cpu (Err r) = answer (refusal_number r) zeros

abbrev pub of_to_bus : Result BusAddress CallRefusal → Answer
of_to_bus (Ok a) = answer (pos 0) (one a.0)
of_to_bus (Err r) = answer (refusal_number r) zeros

-- the number of a chain listing, and handle, handler, parameter
abbrev pub of_chain : ℤ → List ℕ → Answer
of_chain number values = answer number (values ++ replicate 3 0)

-- a used mark: status and call-back address
abbrev pub of_used : Result Mark CallRefusal → Answer
of_used (Ok m) = answer (pos 0) (m.status ∷ m.call_back ∷ replicate 4 0)
of_used (Err r) = answer (refusal_number r) zeros
