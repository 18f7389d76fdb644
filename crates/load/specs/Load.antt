-- Load: document 01, "The modelled board" and "Load refusals".
use Rattle.std.specs.Prelude.{ℕ, ◌*◌, cond, List, length}
use Rattle.numbers.specs.Tables.{filled_up}
use Rattle.board.specs.Parts.{Parts}
use Rattle.board.specs.Handles.{header_of}
use Rattle.board.specs.Layout.{functions_max, record_size, exponent}
use Rattle.cell_layout.specs.Cells.{offsets_of}
use Rattle.reset.specs.Reset.{restarted}
use Rattle.image_layout.specs.Image.{count_of, records_of}
use Rattle.image_check.specs.Check.{checked_any_length, checked}
use Rattle.image_refusals.specs.Refusals.{Verdict, is_accepted}

-- the loaded records, zeros after the last
abbrev pub padded : List ℕ → List ℕ
padded records = filled_up (functions_max * record_size) records

-- the parts that an accepted image leaves
abbrev pub installed : List ℕ → List ℕ → Parts
installed image cells =
    restarted (header_of (count_of image)) (padded (records_of image))
    (offsets_of (exponent (padded (records_of image)))) cells

-- what a load hands back, and the parts that it leaves
pub record LoadOutcome : Type 0 where
  pub verdict : Verdict
  pub parts : Parts

abbrev pub load_outcome : Verdict → Parts → LoadOutcome
load_outcome v p = record { verdict = v; parts = p }

-- the parts of an image where the verdict accepts it, else as they were
abbrev pub taken_in : Verdict → Parts → List ℕ → LoadOutcome
taken_in v p image =
    cond (is_accepted v) (load_outcome v (installed image p.cells))
    (load_outcome v p)

-- a refused load leaves everything as it was
unfoldable pub load : Parts → List ℕ → LoadOutcome
load p image = taken_in (checked image (length p.cells)) p image

-- a load without the upper length, for an image that comes in portions
unfoldable pub load_any_length : Parts → List ℕ → LoadOutcome
load_any_length p image = taken_in (checked_any_length image (length p.cells)) p image
