-- Reading configuration registers: document 01, "Registers" and "Numbers handed back".
use Rattle.std.specs.Prelude.{ℕ, List, Result, Ok, Err}
use Rattle.board.specs.Handles.{is_handle}
use Rattle.board.specs.Layout.{register_byte}
use Rattle.numbers.specs.Numbers.{little}
use Rattle.board.specs.Reads.{Read, accepted_fast, refused_fast}
use Rattle.board.specs.declared.read.FastRead.{FastRead}
use Rattle.board.specs.declared.status.CallRefusal.{CallRefusal}
use Rattle.config_read.specs.Target.{target}

-- w bytes of registers r by place and number, little-endian
abbrev pub read_of : (ℕ → ℕ → ℕ) → ℕ → ℕ → Result ℕ CallRefusal → Read
read_of r w register (Ok i) = Ok (little w (r i) register)
read_of r w register (Err s) = Err s

-- a refused fast read returns all ones of its width and a set fault flag
abbrev pub fast_read_of : (ℕ → ℕ → ℕ) → ℕ → ℕ → Result ℕ CallRefusal → FastRead
fast_read_of r w register (Ok i) = accepted_fast (little w (r i) register)
fast_read_of r w register (Err s) = refused_fast w

abbrev pub read_config : ℕ → List ℕ → List ℕ → ℕ → ℕ → Read
read_config w header registers handle register =
    read_of (register_byte registers) w register
    (target (is_handle header handle) w handle register)

abbrev pub fast_read_config : ℕ → List ℕ → List ℕ → ℕ → ℕ → FastRead
fast_read_config w header registers handle register =
    fast_read_of (register_byte registers) w register
    (target (is_handle header handle) w handle register)
