-- The rows of the byte-order rule, worked out.
use mathlib.Core.Path.{refl}
use Rattle.numbers.specs.Numbers.{big, reversed}
use Rattle.data_order.specs.Rows.{DataOrderRows}

pub data_order_rows : DataOrderRows
unfolding big reversed
data_order_rows =
    record {
      distances0 = refl;
      distances15 = refl;
      distances1 = refl;
      distances2 = refl;
      distances3 = refl;
      values0 = refl;
      values15 = refl;
      values1 = refl;
      values2 = refl;
      values3 = refl;
    }
