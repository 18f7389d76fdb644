-- The rows, worked out.
use mathlib.Core.Path.{refl}
use Rattle.numbers.specs.Numbers.{little}
use Rattle.window.specs.Kept.{pack}
use Rattle.window_list.specs.Windows.{window_at, gather, open_windows, put, put_all, list_of}
use Rattle.window_list.specs.Kept.{kept_list}
use Rattle.window_list.specs.Rows.{WindowListRows}

pub window_list_rows : WindowListRows
unfolding little pack window_at gather open_windows put put_all list_of kept_list
window_list_rows =
    record {
      shared_address = refl;
      any_function = refl;
      same_space = refl;
      end_of_space = refl;
      both_marked = refl;
      none_marked = refl;
      middle = refl;
      without_middle = refl;
      marked_at_the_end = refl;
      in_order = refl;
      list_of_b1 = refl;
      first_function = refl;
      list_of_p11 = refl;
      memory_closed = refl;
      io_closed = refl;
      both_closed = refl;
      six_bases = refl;
      kept = refl;
    }
