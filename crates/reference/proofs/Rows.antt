-- The rows of what the claims are made of, computed: a line for each field, so that an error names
-- the rule.
use mathlib.Core.Path.{refl}
use Rattle.cell_layout.specs.Cells.{cells_before}
use Rattle.resource.specs.Resource.{windows_from}
use Rattle.reference.specs.Claims.{may_touch}
use Rattle.reference.specs.Rows.{ReferenceRows}

pub reference_rows : ReferenceRows
unfolding cells_before windows_from may_touch
reference_rows =
    record {
      loads = refl;
      writers = refl;
      resets = refl;
      configurations = refl;
      data_calls = refl;
      resources = refl;
      hooks = refl;
      marks = refl;
      searches = refl;
      draft_searches = refl;
      draft_data = refl;
      unknown_editions = refl;
      conversions = refl;
      listings = refl;
      always = refl;
      fillers = refl;
      zero_fillers = refl;
      bytes_addressed = refl;
      registers_touched = refl;
      records_touched = refl;
      header_touched = refl;
      list_touched = refl;
      cells_accessed = refl;
      none_accessed = refl;
      used_touched = refl;
      cells_touched = refl;
      own_touched = refl;
      hooks_touched = refl;
      calls = refl;
    }
