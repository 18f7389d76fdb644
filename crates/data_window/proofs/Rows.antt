-- The rows of the search for a window, worked out.
use Rattle.std.proofs.Common.{refl}
use Rattle.numbers.specs.Numbers.{big}
use Rattle.window.specs.Kept.{pack, unpacked}
use Rattle.data_window.specs.Find.{in_list, find}
use Rattle.data_window.specs.Rows.{DataWindowRows}

pub data_window_rows : DataWindowRows
unfolding in_list find pack unpacked big
data_window_rows =
    record {
      bit0 = refl;
      bit1 = refl;
      bit2 = refl;
      bytes_held = refl;
      longwords_held = refl;
      other_handle = refl;
      other_space = refl;
      last_addresses = refl;
      six_bases = refl;
      numbers = refl;
      edition_number = refl;
      handle_alone = refl;
      cells_alone = refl;
      others_alone = refl;
      handle_and_cells = refl;
      handle_first = refl;
      cells_first = refl;
      alignment_first = refl;
      mark_first = refl;
      handles = refl;
      rooms = refl;
      own_widths = refl;
      edition_and_handle = refl;
      edition_and_cells = refl;
      edition_and_alignment = refl;
      edition_and_window = refl;
      edition_and_mark = refl;
      edition_and_width = refl;
      edition_alone = refl;
      draft_first = refl;
      draft_second = refl;
      later_first = refl;
      reasons = refl;
      remaining = refl;
      last_bytes = refl;
      refused_for = refl;
      first_reasons = refl;
      reasons_in_editions = refl;
      draft_remaining = refl;
    }
