-- The rows, worked out.
use mathlib.Core.Path.{refl}
use Rattle.numbers.specs.Numbers.{little, big, reversed}
use Rattle.numbers.specs.Tables.{table_from}
use Rattle.numbers.specs.Rows.{NumbersRows}

pub numbers_rows : NumbersRows
unfolding little big reversed table_from
numbers_rows =
    record {
      widths = refl;
      little_endian = refl;
      big_endian = refl;
      big_endian_bytes = refl;
      reversed_bytes = refl;
      past_the_end = refl;
      long_past_the_end = refl;
      byte_only = refl;
      big_byte_only = refl;
      multiples_of1 = refl;
      multiples_of2 = refl;
      multiples_of4 = refl;
      powers = refl;
      bits_of12 = refl;
      zero_only = refl;
      signed_bits = refl;
      tabled = refl;
      filled = refl;
    }
