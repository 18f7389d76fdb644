-- The rows, worked out.
use mathlib.Core.Path.{refl}
use Rattle.numbers.specs.Numbers.{big}
use Rattle.numbers.specs.Tables.{table_from}
use Rattle.call_encoding.specs.Format.{candidate, call_header, same_bytes, decoded, answer_bytes}
use Rattle.call_encoding.specs.Rows.{CallEncodingRows}

pub call_encoding_rows : CallEncodingRows
unfolding big table_from candidate call_header same_bytes decoded answer_bytes
call_encoding_rows =
    record {
      headers = refl;
      whole_write = refl;
      whole_search = refl;
      read_write = refl;
      read_search = refl;
      operations = refl;
      widths = refl;
      spaces = refl;
      unused = refl;
      editions = refl;
      read_editions = refl;
      no_edition = refl;
      sizes = refl;
      refused = refl;
      accepted = refl;
    }
