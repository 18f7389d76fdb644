-- The rows, each computed.
use Rattle.std.proofs.Common.{refl}
use Rattle.numbers.specs.Numbers.{little, big}
use Rattle.numbers.specs.Tables.{table_from}
use Rattle.board.specs.Rows.{BoardRows}

pub board_rows : BoardRows
unfolding little big table_from
board_rows =
    record {
      headers = refl;
      counts = refl;
      no_handles = refl;
      handles = refl;
      handles_of16 = refl;
      handles_of17 = refl;
      places = refl;
      lengths = refl;
      parts_named = refl;
      parts_left = refl;
      record_bytes = refl;
      masks = refl;
      exponents = refl;
      orders = refl;
      width_bits = refl;
      offsets = refl;
      dma_offsets = refl;
      numbers = refl;
      reads = refl;
      read_numbers = refl;
      accepted_fast_reads = refl;
      fast_fillers = refl;
      fast_reads = refl;
      register_bytes = refl;
      commands = refl;
      base_registers = refl;
      base_registers_of1 = refl;
      spaces = refl;
      cpu_addresses = refl;
      bus_addresses = refl;
      cpu_address_beyond = refl;
      bus_address_below = refl;
      address_numbers = refl;
      widths_from_c = refl;
      spaces_from_c = refl;
    }
