-- What data reads and writes mean, without the proofs: document 01, "Numbers handed back" and "Data
-- and byte order". They are of any lent parts.
use Rattle.std.specs.Prelude.{ℕ, ◌+◌, ◌-◌, ◌%◌, ◌^◌, ◌<◌, ◌≤◌, true, false, List, ◌↔◌, ◌≡◌, length, pos, Ok, Err}
use Rattle.board.specs.Reads.{value_of}
use Rattle.board.specs.Statuses.{successful, number_of}
use Rattle.call_edition.specs.declared.edition.InEdition.{InEdition}
use Rattle.data_cells.specs.Cells.{CellTarget, cell_target}
use Rattle.data_access.specs.Data.{read_data, fast_read_data, write_data}

-- an accepted fast read equals the plain read; a refused one is refused as the plain read is, and
-- gives all ones of its width
abbrev pub FastDataReadAgrees : Type 0
FastDataReadAgrees =
    (w : ℕ) (header records windows offsets cells : List ℕ) (space handle : ℕ)
    (address : InEdition)
    → (((fast_read_data w header records windows offsets cells space handle address).fault ≡ false)
    ↔ (number_of (read_data w header records windows offsets cells space handle address) ≡ pos 0))
    × (((fast_read_data w header records windows offsets cells space handle address).fault ≡ false
    → (fast_read_data w header records windows offsets cells space handle address).value
    ≡ value_of (read_data w header records windows offsets cells space handle address))
    × ((fast_read_data w header records windows offsets cells space handle address).fault ≡ true
    → (fast_read_data w header records windows offsets cells space handle address).value
    ≡ 256 ^ w - 1))

-- after an accepted write the same read gives the value back, of which the low w bytes were taken
abbrev pub DataReadBack : Type 0
DataReadBack =
    (w : ℕ) (header records windows offsets cells : List ℕ) (space handle : ℕ)
    (address : InEdition) (value : ℕ)
    → (write_data w header records windows offsets cells space handle address value).status
    ≡ successful
    → read_data w header records windows offsets
    (write_data w header records windows offsets cells space handle address value).cells
    space handle address
    ≡ Ok (value % 256 ^ w)

-- cell j is one of the w cells of an access, which has none where it is refused
abbrev pub HasCell : ℕ → CellTarget → ℕ → Type 0
HasCell w (Ok c) j = (c.at ≤ j) × (j < c.at + w)
HasCell w (Err r) j = ⊥

-- every read, of any width, space, handle, address and edition, that has none of a write's cells is
-- after the write as before it, refused or accepted, plain or fast
pub record SameReads (w : ℕ) (header records windows offsets cells left : List ℕ)
    (space handle : ℕ) (address : InEdition) : Type 0 where
  pub plain : read_data w header records windows offsets left space handle address
      ≡ read_data w header records windows offsets cells space handle address
  pub fast : fast_read_data w header records windows offsets left space handle address
      ≡ fast_read_data w header records windows offsets cells space handle address

abbrev pub OtherReadsKept : Type 0
OtherReadsKept =
    (header records windows offsets cells : List ℕ)
    (w space handle : ℕ) (address : InEdition) (value w' space' handle' : ℕ) (address' : InEdition)
    → ((j : ℕ)
    → HasCell w (cell_target w header records windows offsets (length cells) space handle address) j
    → HasCell w'
    (cell_target w' header records windows offsets (length cells) space' handle' address') j
    → ⊥)
    → SameReads w' header records windows offsets cells
    (write_data w header records windows offsets cells space handle address value).cells
    space' handle' address'
