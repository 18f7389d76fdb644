-- The rows, of any arguments.
use mathlib.Core.Path.{refl}
use Rattle.unsupported.specs.Rows.{UnsupportedRows}

pub unsupported_rows : UnsupportedRows
unsupported_rows =
    record {
      cycle = λ bus message. refl;
      routing = λ handle. refl;
      interrupt = λ handle mode. refl;
    }
