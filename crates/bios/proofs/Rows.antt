-- The rows of what C is handed, computed: a line for each field, so that an error names the rule.
use mathlib.Core.Path.{refl}
use Rattle.bios.specs.Rows.{BiosRows}

pub bios_rows : BiosRows
bios_rows =
    record {
      other_read = λ header registers handle register. refl;
      other_fast = λ header registers handle register. refl;
      other_write = λ header records registers windows handle register value. refl;
      verdicts = refl;
      hooks = refl;
      marks_left = refl;
      cells = refl;
      descriptors = refl;
      images = refl;
      configuration = refl;
      loads = λ p. refl;
      resets = λ p. refl;
      reads = refl;
      to_cpu = refl;
      to_bus = refl;
      marks = refl;
      flags = refl;
      steps = refl;
      parts = refl;
    }
