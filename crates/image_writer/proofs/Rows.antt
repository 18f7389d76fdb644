-- The rows, worked out.
use mathlib.Core.Path.{refl}
use Rattle.numbers.specs.Tables.{table_from}
use Rattle.image_layout.specs.Image.{sum}
use Rattle.image_writer.specs.Write.{write_image}
use Rattle.image_writer.specs.Rows.{ImageWriterRows}

pub image_writer_rows : ImageWriterRows
unfolding table_from sum write_image
image_writer_rows =
    record {
      empty_board = refl;
      shorter = refl;
      written = refl;
      both_written = refl;
    }
