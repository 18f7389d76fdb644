-- Data calls as C asks for them: document 01, "What the promises say". There a width is any number:
-- another than 1, 2 or 4 is refused with -8, and a fast read of it gives all ones. An unknown
-- edition comes before that too: request E1, "before all else".
use Rattle.std.specs.Prelude.{ℕ, true, cond, List, Option, Some, None, Result, Ok, Err}
use Rattle.numbers.specs.Numbers.{bytes}
use Rattle.numbers.specs.declared.number.Width.{Width}
use Rattle.board.specs.Reads.{Read, accepted_fast, refused_fast}
use Rattle.board.specs.declared.read.FastRead.{FastRead}
use Rattle.board.specs.declared.status.CallRefusal.{CallRefusal}
use Rattle.board.specs.declared.status.CallRefusal.TheVariants.{FuncNotSupported, GeneralError}
use Rattle.call_edition.specs.Edition.{is_known}
use Rattle.call_edition.specs.declared.edition.InEdition.{InEdition}
use Rattle.data_window.specs.Find.{refusal_of}
use Rattle.data_cells.specs.Cells.{CellTarget, cell_target}
use Rattle.data_access.specs.declared.c_calls.Access.{Access}
use Rattle.data_access.specs.Data.{
  DataWritten,
  data_written,
  read_data,
  fast_read_data,
  write_data,
}

-- why a width that is none is refused, by the edition
abbrev pub other_width : InEdition → CallRefusal
other_width address = cond (is_known address) GeneralError FuncNotSupported

-- the width and the cells of a call, or why it is refused
abbrev pub access_of : Width → CellTarget → Result Access CallRefusal
access_of width (Ok c) = Ok (record { width = width; target = c })
access_of width (Err r) = Err (refusal_of r)

abbrev pub c_access : Option Width → List ℕ → List ℕ → List ℕ → List ℕ → ℕ → ℕ → ℕ → InEdition
    → Result Access CallRefusal
c_access (Some width) header records windows offsets room space handle address =
    access_of width
    (cell_target (bytes width) header records windows offsets room space handle address)
c_access None header records windows offsets room space handle address = Err (other_width address)

abbrev pub c_read_data : Option Width → List ℕ → List ℕ → List ℕ → List ℕ → List ℕ → ℕ → ℕ
    → InEdition → Read
c_read_data (Some width) header records windows offsets cells space handle address =
    read_data (bytes width) header records windows offsets cells space handle address
c_read_data None header records windows offsets cells space handle address =
    Err (other_width address)

-- a fast read that is refused: all ones of its width, of 4 bytes where it is none
abbrev pub no_fast_read : Option Width → FastRead
no_fast_read (Some width) = refused_fast (bytes width)
no_fast_read None = record { value = 0xFFFFFFFF; fault = true }

-- what a fast read hands back of a read
abbrev pub c_fast_of : Option Width → Read → FastRead
c_fast_of width (Ok v) = accepted_fast v
c_fast_of width (Err r) = no_fast_read width

abbrev pub c_fast_read_data : Option Width → List ℕ → List ℕ → List ℕ → List ℕ → List ℕ → ℕ → ℕ
    → InEdition → FastRead
c_fast_read_data (Some width) header records windows offsets cells space handle address =
    fast_read_data (bytes width) header records windows offsets cells space handle address
c_fast_read_data None header records windows offsets cells space handle address = no_fast_read None

abbrev pub c_write_data : Option Width → List ℕ → List ℕ → List ℕ → List ℕ → List ℕ → ℕ → ℕ
    → InEdition → ℕ → DataWritten
c_write_data (Some width) header records windows offsets cells space handle address value =
    write_data (bytes width) header records windows offsets cells space handle address value
c_write_data None header records windows offsets cells space handle address value =
    data_written (Err (other_width address)) cells
