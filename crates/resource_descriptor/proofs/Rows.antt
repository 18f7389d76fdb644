-- The rows, worked out.
use mathlib.Core.Path.{refl}
use Rattle.numbers.specs.Numbers.{big}
use Rattle.numbers.specs.Tables.{table_from}
use Rattle.resource_descriptor.specs.Descriptor.{descriptor_bytes, descriptors_bytes}
use Rattle.resource_descriptor.specs.Rows.{ResourceDescriptorRows}

pub resource_descriptor_rows : ResourceDescriptorRows
unfolding big table_from descriptor_bytes descriptors_bytes
resource_descriptor_rows =
    record {
      bytes = refl;
      bytes_of_two = refl;
      read = refl;
      io = refl;
      last = refl;
      widths = refl;
      other_widths = refl;
      orders = refl;
      other_orders = refl;
      together = refl;
      marked = refl;
    }
