-- What the calls for C hand back, as one value each: document 01, "What the promises say". A call
-- for C gives its number and stores the rest, and a contract states both as one: what is numbered
-- is what was given, shown.
use Rattle.std.specs.Prelude.{ℕ, cond, true, List, [], ◌∷◌, ◌++◌, ℤ, pos, replicate, Option, Some, None, Result, Ok, Err}
use Rattle.numbers.specs.Numbers.{bytes}
use Rattle.numbers.specs.declared.number.Width.{Width}
use Rattle.board.specs.Parts.{Parts}
use Rattle.board.specs.Reads.{Read, value_of}
use Rattle.board.specs.Statuses.{number_of, refusal_number, general_error}
use Rattle.board.specs.declared.address.BusAddress.{BusAddress}
use Rattle.board.specs.declared.address.CpuAddress.{CpuAddress}
use Rattle.board.specs.declared.read.FastRead.{FastRead}
use Rattle.board.specs.declared.status.CallRefusal.{CallRefusal}
use Rattle.board.specs.declared.status.CallRefusal.TheVariants.{GeneralError}
use Rattle.window.specs.Window.{Window}
use Rattle.window_listing.specs.Listing.{listed_number, listed_values}
use Rattle.image_refusals.specs.Refusals.{Verdict, verdict_number, verdict_place}
use Rattle.image_writer.specs.Write.{WriterOutcome}
use Rattle.load.specs.Load.{LoadOutcome}
use Rattle.reset.specs.Reset.{ResetOutcome}
use Rattle.config_read.specs.Read.{read_config, fast_read_config}
use Rattle.config_write.specs.Write.{ConfigWritten, config_written, write_config}
use Rattle.data_access.specs.Data.{DataWritten}
use Rattle.resource.specs.Resource.{ResourceOutcome}
use Rattle.interrupt_array.specs.declared.hooks.Hook.{Hook}
use Rattle.interrupt_hook.specs.Chain.{HookOutcome}
use Rattle.interrupt_list.specs.Listing.{chain_number, chain_values}
use Rattle.card_used.specs.Used.{MarkOutcome}
use Rattle.card_used.specs.declared.used.Mark.{Mark}
use Rattle.resource_descriptor.specs.declared.descriptor.Descriptor.{Descriptor}
use Rattle.resource_walk.specs.declared.step.Step.{Step}

-- a verdict: its number and its place
pub record VerdictNumbers : Type 0 where
  pub number : ℤ
  pub place : ℕ

abbrev pub verdict_numbers : ℤ → ℕ → VerdictNumbers
verdict_numbers number place = record { number = number; place = place }

abbrev pub verdict_shown : Verdict → VerdictNumbers
verdict_shown v = verdict_numbers (verdict_number v) (verdict_place v)

-- a load: its verdict, and the lent parts
pub record LoadNumbers : Type 0 where
  pub verdict : VerdictNumbers
  pub parts : Parts

abbrev pub load_numbers : ℤ → ℕ → Parts → LoadNumbers
load_numbers number place p = record { verdict = verdict_numbers number place; parts = p }

abbrev pub load_shown : LoadOutcome → LoadNumbers
load_shown w = record { verdict = verdict_shown w.verdict; parts = w.parts }

-- a reset: its number, and the lent parts
pub record ResetNumbers : Type 0 where
  pub number : ℤ
  pub parts : Parts

abbrev pub reset_numbers : ℤ → Parts → ResetNumbers
reset_numbers number p = record { number = number; parts = p }

abbrev pub reset_shown : ResetOutcome → ResetNumbers
reset_shown w = reset_numbers (number_of w.status) w.parts

-- a number, and the one lent part that a call may change
pub record Left : Type 0 where
  pub number : ℤ
  pub part : List ℕ

abbrev pub left : ℤ → List ℕ → Left
left number part = record { number = number; part = part }

abbrev pub out_left : WriterOutcome → Left
out_left w = left (verdict_number w.verdict) w.out

abbrev pub cells_left : DataWritten → Left
cells_left w = left (number_of w.status) w.cells

abbrev pub descriptors_left : ResourceOutcome → Left
descriptors_left w = left (number_of w.status) w.out

abbrev pub hooks_left : HookOutcome → Left
hooks_left w = left (number_of w.status) w.hooks

abbrev pub used_left : MarkOutcome → Left
used_left w = left (number_of w.status) w.used

-- a configuration write: its number, the registers and the kept list
pub record ConfigNumbers : Type 0 where
  pub number : ℤ
  pub registers : List ℕ
  pub windows : List ℕ

abbrev pub config_numbers : ℤ → List ℕ → List ℕ → ConfigNumbers
config_numbers number registers windows =
    record { number = number; registers = registers; windows = windows }

abbrev pub config_shown : ConfigWritten → ConfigNumbers
config_shown w = config_numbers (number_of w.status) w.registers w.windows

-- a number, and the values beside it
pub record Shown : Type 0 where
  pub number : ℤ
  pub values : List ℕ

abbrev pub shown : ℤ → List ℕ → Shown
shown number values = record { number = number; values = values }

-- window n of a list: space (1 for I/O), start, length, handle, base register, contested; zeros
-- past the end
abbrev pub shown_window : List Window → ℕ → Shown
shown_window l n = shown (listed_number l n) (listed_values l n)

-- an index of a line's chain: handle, handler, parameter, then zeros; zeros where it is refused
abbrev pub shown_hook : List Hook → ℕ → ℕ → Shown
shown_hook chain line index =
    shown (chain_number chain line index) (chain_values chain line index ++ replicate 3 0)

-- a used mark: its number, status and call-back address
pub record UsedNumbers : Type 0 where
  pub number : ℤ
  pub used : ℕ
  pub call_back : ℕ

abbrev pub used_numbers : ℤ → ℕ → ℕ → UsedNumbers
used_numbers number used call_back =
    record { number = number; used = used; call_back = call_back }

abbrev pub used_shown : Result Mark CallRefusal → UsedNumbers
used_shown (Ok m) = used_numbers (pos 0) m.status m.call_back
used_shown (Err r) = used_numbers (refusal_number r) 0 0

-- a step through descriptors: 1, the six fields and the position after them, or 0, zeros and the
-- position as it was
pub record StepNumbers : Type 0 where
  pub found : ℕ
  pub fields : List ℕ
  pub following : ℕ

abbrev pub step_numbers : ℕ → List ℕ → ℕ → StepNumbers
step_numbers found fields following =
    record { found = found; fields = fields; following = following }

abbrev pub fields_shown : Descriptor → List ℕ
fields_shown d = d.next ∷ d.flags ∷ d.start ∷ d.length ∷ d.offset ∷ d.dmaoffset ∷ []

abbrev pub step_shown : ℕ → Option Step → StepNumbers
step_shown at (Some s) = step_numbers 1 (fields_shown s.descriptor) s.following
step_shown at None = step_numbers 0 (replicate 6 0) at

-- a number, and one value: of a read, 0 where it is refused
pub record ReadNumbers : Type 0 where
  pub number : ℤ
  pub value : ℕ

abbrev pub read_numbers : ℤ → ℕ → ReadNumbers
read_numbers number value = record { number = number; value = value }

abbrev pub read_shown : Read → ReadNumbers
read_shown r = read_numbers (number_of r) (value_of r)

-- of a conversion the address, 0 where it is refused
abbrev pub to_cpu_shown : Result CpuAddress CallRefusal → ReadNumbers
to_cpu_shown (Ok a) = read_numbers (pos 0) a.0
to_cpu_shown (Err r) = read_numbers (refusal_number r) 0

abbrev pub to_bus_shown : Result BusAddress CallRefusal → ReadNumbers
to_bus_shown (Ok a) = read_numbers (pos 0) a.0
to_bus_shown (Err r) = read_numbers (refusal_number r) 0

-- another width than 1, 2 or 4 is refused with -8, and a fast read of it gives all ones
abbrev pub c_read_config : Option Width → List ℕ → List ℕ → ℕ → ℕ → Read
c_read_config (Some width) header registers handle register =
    read_config (bytes width) header registers handle register
c_read_config None header registers handle register = Err GeneralError

abbrev pub c_fast_read_config : Option Width → List ℕ → List ℕ → ℕ → ℕ → FastRead
c_fast_read_config (Some width) header registers handle register =
    fast_read_config (bytes width) header registers handle register
c_fast_read_config None header registers handle register =
    record { value = 0xFFFFFFFF; fault = true }

abbrev pub c_write_config : Option Width → List ℕ → List ℕ → List ℕ → List ℕ → ℕ → ℕ → ℕ
    → ConfigWritten
c_write_config (Some width) header records registers windows handle register value =
    write_config (bytes width) header records registers windows handle register value
c_write_config None header records registers windows handle register value =
    config_written general_error registers windows

-- a fast read as two numbers: the fault flag is 1 where it is set
pub record Fast : Type 0 where
  pub value : ℕ
  pub fault : ℕ

abbrev pub fast_numbers : ℕ → ℕ → Fast
fast_numbers value fault = record { value = value; fault = fault }

abbrev pub fast_shown : FastRead → Fast
fast_shown r = fast_numbers r.value (cond r.fault 1 0)
