-- Data reads and writes: document 01, "Data and byte order" and "Numbers handed back"; the address
-- is named in a call edition: request E1.
use Rattle.std.specs.Prelude.{ℕ, ◌+◌, ◌≤◌, List, ◌≡◌, length, Ok, Err}
use Rattle.board.specs.Reads.{Read, accepted_fast, refused_fast}
use Rattle.board.specs.Statuses.{Status, successful}
use Rattle.board.specs.declared.read.FastRead.{FastRead}
use Rattle.call_edition.specs.declared.edition.InEdition.{InEdition}
use Rattle.data_window.specs.Find.{refusal_of}
use Rattle.data_cells.specs.declared.target.Cells.{Cells}
use Rattle.data_cells.specs.Cells.{CellTarget, cell_target, cells_value, cells_after}

-- the cells of an access are among so many
abbrev pub Inside : ℕ → ℕ → CellTarget → Type 0
Inside w room target = (c : Cells) → target ≡ Ok c → c.at + w ≤ room

abbrev pub read_at : ℕ → List ℕ → CellTarget → Read
read_at w cells (Ok c) = Ok (cells_value c.order w c.at cells)
read_at w cells (Err r) = Err (refusal_of r)

abbrev pub fast_read_at : ℕ → List ℕ → CellTarget → FastRead
fast_read_at w cells (Ok c) = accepted_fast (cells_value c.order w c.at cells)
fast_read_at w cells (Err r) = refused_fast w

-- a write's status, and the cells that it leaves
pub record DataWritten : Type 0 where
  pub status : Status
  pub cells : List ℕ

abbrev pub data_written : Status → List ℕ → DataWritten
data_written status cells = record { status = status; cells = cells }

abbrev pub write_at : ℕ → ℕ → List ℕ → CellTarget → DataWritten
write_at w value cells (Ok c) =
    data_written successful (cells_after c.order w c.at value cells)
write_at w value cells (Err r) = data_written (Err (refusal_of r)) cells

-- of the lent parts
abbrev pub read_data : ℕ → List ℕ → List ℕ → List ℕ → List ℕ → List ℕ → ℕ → ℕ → InEdition → Read
read_data w header records windows offsets cells space handle address =
    read_at w cells (cell_target w header records windows offsets (length cells) space handle address)

abbrev pub fast_read_data : ℕ → List ℕ → List ℕ → List ℕ → List ℕ → List ℕ → ℕ → ℕ → InEdition
    → FastRead
fast_read_data w header records windows offsets cells space handle address =
    fast_read_at w cells
    (cell_target w header records windows offsets (length cells) space handle address)

abbrev pub write_data : ℕ → List ℕ → List ℕ → List ℕ → List ℕ → List ℕ → ℕ → ℕ → InEdition → ℕ
    → DataWritten
write_data w header records windows offsets cells space handle address value =
    write_at w value cells
    (cell_target w header records windows offsets (length cells) space handle address)
