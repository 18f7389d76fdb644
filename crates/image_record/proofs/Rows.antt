-- The rows of a record, computed: a line for each field, so that an error names the rule.
use mathlib.Core.Path.{refl}
use Rattle.numbers.specs.Numbers.{little, big}
use Rattle.image_entry.specs.Entry.{entry_ok}
use Rattle.image_record.specs.Record.{record_ok}
use Rattle.image_record.specs.Rows.{ImageRecordRows, with_bytes, b1_first, fullest}

pub image_record_rows : ImageRecordRows
unfolding little big entry_ok record_ok with_bytes b1_first fullest
image_record_rows =
    record {
      b1 = refl;
      vendors = refl;
      header_types = refl;
      pins = refl;
      read_only_masks = refl;
      masks_beside = refl;
      rom_values = refl;
      bases = refl;
      broken_bases = refl;
      no_window = refl;
      offsets = refl;
      dma_offset = refl;
      free_bits = refl;
    }
