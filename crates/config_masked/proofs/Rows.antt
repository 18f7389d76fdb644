-- The rows, worked out.
use mathlib.Core.Path.{refl}
use Rattle.config_masked.specs.Rows.{ConfigMaskedRows}

pub config_masked_rows : ConfigMaskedRows
config_masked_rows =
    record {
      masked = refl;
      cleared = refl;
      both = refl;
      halves = refl;
      zero_written = refl;
      own_written = refl;
    }
