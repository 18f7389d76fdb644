-- The rows, worked out.
use mathlib.Core.Path.{refl}
use Rattle.numbers.specs.Numbers.{little, big}
use Rattle.numbers.specs.Tables.{table_from}
use Rattle.window.specs.Kept.{pack, unpacked}
use Rattle.window_start.specs.Start.{start_in}
use Rattle.resource_descriptor.specs.Descriptor.{descriptor_bytes, descriptors_bytes}
use Rattle.resource.specs.Resource.{windows_from, described, resource}
use Rattle.resource.specs.Rows.{ResourceRows}

pub resource_rows : ResourceRows
unfolding little big table_from pack unpacked start_in descriptor_bytes descriptors_bytes windows_from described resource
resource_rows =
    record {
      bad_handle = refl;
      no_windows = refl;
      room1 = refl;
      room2 = refl;
      refused = refl;
      six = refl;
      gaps = refl;
      nexts = refl;
      flags = refl;
      starts = refl;
      lengths = refl;
      offsets = refl;
      dmaoffsets = refl;
      bytes = refl;
    }
