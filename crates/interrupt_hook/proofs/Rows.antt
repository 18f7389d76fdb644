-- The rows, worked out.
use mathlib.Core.Path.{refl}
use Rattle.numbers.specs.Tables.{table_from}
use Rattle.interrupt_array.specs.Hooks.{hooks_from, chosen}
use Rattle.interrupt_hook.specs.Chain.{past_last, first_from}
use Rattle.interrupt_hook.specs.Meaning.{array_after, is_among, without}
use Rattle.interrupt_hook.specs.Rows.{InterruptHookRows}

pub interrupt_hook_rows : InterruptHookRows
unfolding table_from hooks_from chosen past_last first_from array_after is_among without
interrupt_hook_rows =
    record {
      pins = refl;
      lines = refl;
      twice = refl;
      bad_handle = refl;
      bad_handle_first = refl;
      pin_first = refl;
      line_first = refl;
      last = refl;
      last_on_its_line = refl;
      order = refl;
      hooked = refl;
      unhook = refl;
      unhook_bad_handle = refl;
      unhook_none = refl;
      unhook_between = refl;
      again = refl;
      among = refl;
      left = refl;
      full = refl;
      one_free = refl;
    }
