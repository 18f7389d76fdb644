-- The rows, worked out.
use mathlib.Core.Path.{refl}
use Rattle.config_read.specs.Target.{target}
use Rattle.config_write.specs.Write.{bytes_written}
use Rattle.config_write.specs.Rows.{ConfigWriteRows}

pub config_write_rows : ConfigWriteRows
unfolding target bytes_written
config_write_rows =
    record {
      masked = refl;
      command = refl;
      past_status = refl;
      status = refl;
      status_word = refl;
      status_zero = refl;
      status_bytes = refl;
      command_and_status = refl;
      byte = refl;
      word = refl;
      longword = refl;
      read_only = refl;
      bad_handle = refl;
      bad_handle_first = refl;
      not_multiple = refl;
      command_bytes = refl;
      command_words = refl;
      command_longwords = refl;
      base_bytes = refl;
      base_words = refl;
      base_longwords = refl;
    }
