-- The rows, each computed.
use mathlib.Core.Path.{refl}
use Rattle.numbers.specs.Numbers.{big}
use Rattle.address_convert.specs.Rows.{AddressConvertRows}

pub address_convert_rows : AddressConvertRows
unfolding big
address_convert_rows =
    record {
      cpu_refused = refl;
      bus_refused = refl;
      cpu_accepted = refl;
      cpu_last = refl;
      bus_accepted = refl;
      bus_first = refl;
    }
