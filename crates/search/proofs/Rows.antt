-- The rows, worked out.
use mathlib.Core.Path.{refl}
use Rattle.numbers.specs.Numbers.{little}
use Rattle.search.specs.Search.{matching, searched, search_number, sought_at, sought_number}
use Rattle.search.specs.Rows.{SearchRows}

pub search_rows : SearchRows
unfolding little matching searched search_number sought_at sought_number
search_rows =
    record {
      device_and_vendor = refl;
      any_vendor = refl;
      device_ffff = refl;
      class_bytes = refl;
      bit26 = refl;
      bit25 = refl;
      bit24 = refl;
      bit27 = refl;
      bits31_to27 = refl;
      table_order = refl;
      every_function = refl;
      by_class = refl;
      index = refl;
      number = refl;
      no_match = refl;
      draft_devices = refl;
      draft_vendors = refl;
      device_editions = refl;
      draft_classes = refl;
      class_editions = refl;
      sought_refused = refl;
      refused_number = refl;
      sought_found = refl;
    }
