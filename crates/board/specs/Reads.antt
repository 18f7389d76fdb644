-- What reads hand back: document 01, "Numbers handed back".
use Rattle.std.specs.Prelude.{ℕ, ◌-◌, ◌^◌, true, false, Result, Ok, Err}
use Rattle.board.specs.declared.read.FastRead.{FastRead}
use Rattle.board.specs.declared.status.CallRefusal.{CallRefusal}

-- a read gives a number, or is refused
abbrev pub Read : Type 0
Read = Result ℕ CallRefusal

-- the value that is handed back: a refused read returns 0
abbrev pub value_of : Read → ℕ
value_of (Ok v) = v
value_of (Err r) = 0

-- an accepted fast read; a refused one returns all ones of its width and a set fault flag
abbrev pub accepted_fast : ℕ → FastRead
accepted_fast v = record { value = v; fault = false }

abbrev pub refused_fast : ℕ → FastRead
refused_fast w = record { value = 256 ^ w - 1; fault = true }

-- what a fast read of so many bytes hands back of a read
abbrev pub fast_of : ℕ → Read → FastRead
fast_of w (Ok v) = accepted_fast v
fast_of w (Err r) = refused_fast w
