-- What a private step does: what a load takes from its image. No public contract cites it.
use Rattle.std.specs.Prelude.{ℕ, List, ◌≡◌}
use Rattle.board.specs.Handles.{header_of}
use Rattle.board.specs.Layout.{exponent}
use Rattle.cell_layout.specs.Cells.{offsets_of}
use Rattle.image_layout.specs.Image.{count_of, records_of}
use Rattle.load.specs.Load.{padded}

-- header, records and offsets of an accepted image; all else follows from them
pub record Installed (image h r o : List ℕ) : Type 0 where
  pub header : h ≡ header_of (count_of image)
  pub records : r ≡ padded (records_of image)
  pub offsets : o ≡ offsets_of (exponent (padded (records_of image)))
