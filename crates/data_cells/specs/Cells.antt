-- Where the cells of an access stand, and what is read and written there: document 01, "The
-- modelled board" and "Data and byte order".
use Rattle.std.specs.Prelude.{ℕ, ◌+◌, ◌-◌, ◌*◌, cond, List, ltb, get_or, Result, Ok, Err}
use Rattle.std.proofs.lemmas.List.Edits.{sets}
use Rattle.board.specs.Layout.{bases, byte_order}
use Rattle.numbers.specs.Numbers.{byte_at, big, big_bytes}
use Rattle.call_edition.specs.declared.edition.InEdition.{InEdition}
use Rattle.data_window.specs.declared.refusal.DataRefusal.{DataRefusal}
use Rattle.data_window.specs.declared.refusal.DataRefusal.TheVariants.{PastBuffer}
use Rattle.data_cells.specs.declared.target.Cells.{Cells}
use Rattle.data_window.specs.Find.{Finding, find_named}
use Rattle.data_order.specs.Orders.{cell_distance, ordered}

-- the cells of an access, or the check that failed
abbrev pub CellTarget : Type 0
CellTarget = Result Cells DataRefusal

-- by the first of them and the byte order
abbrev pub cells_from : ℕ → ℕ → CellTarget
cells_from at order = Ok (record { at = at; order = order })

-- the first cell of an access, and the byte order; whether cells are past the buffer, which only an
-- altered board has, is tested last
abbrev pub cells_at : ℕ → ℕ → ℕ → ℕ → ℕ → CellTarget
cells_at begin order room w distance =
    let at = begin + cell_distance order w distance in
    cond (ltb room (at + w)) (Err PastBuffer) (cells_from at order)

-- begins b is where the cells of base register b begin, orders b its byte order
unfoldable pub cell_target_of : (ℕ → ℕ) → (ℕ → ℕ) → ℕ → ℕ → Finding → CellTarget
cell_target_of begins orders room w (Ok f) =
    cells_at (begins f.base) (orders f.base) room w f.distance
cell_target_of begins orders room w (Err r) = Err r

-- of the lent parts, for what was found in the windows of the function at a place, with so many
-- cells lent
abbrev pub cell_target_in : List ℕ → List ℕ → ℕ → ℕ → ℕ → Finding → CellTarget
cell_target_in records offsets room w function finding =
    cell_target_of (λ b. get_or offsets (bases * function + b) 0) (byte_order records function)
    room w finding

abbrev pub cell_target : ℕ → List ℕ → List ℕ → List ℕ → List ℕ → ℕ → ℕ → ℕ → InEdition → CellTarget
cell_target w header records windows offsets room space handle address =
    cell_target_in records offsets room w (handle - 1)
    (find_named w header records windows offsets room space handle address)

-- cells are read high byte first
abbrev pub cells_value : ℕ → ℕ → ℕ → List ℕ → ℕ
cells_value order w at cells = ordered order w (big w (byte_at cells) at)

-- writing stores so that the same read gives it back; of a value the low w bytes are taken
abbrev pub cells_after : ℕ → ℕ → ℕ → ℕ → List ℕ → List ℕ
cells_after order w at value cells = sets cells at (big_bytes w (ordered order w value))
