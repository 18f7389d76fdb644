-- The second table: the rows of each crate, and the runs.
use Rattle.numbers.proofs.Rows.{numbers_rows}
use Rattle.board.proofs.Rows.{board_rows}
use Rattle.window.proofs.Rows.{window_rows}
use Rattle.window_list.proofs.Rows.{window_list_rows}
use Rattle.window_listing.proofs.Rows.{window_listing_rows}
use Rattle.window_start.proofs.Rows.{window_start_rows}
use Rattle.image_entry.proofs.Rows.{image_entry_rows}
use Rattle.image_record.proofs.Rows.{image_record_rows}
use Rattle.image_layout.proofs.Rows.{image_layout_rows}
use Rattle.image_refusals.proofs.Rows.{image_refusals_rows}
use Rattle.cell_layout.proofs.Rows.{cell_layout_rows}
use Rattle.image_check.proofs.Rows.{image_check_rows}
use Rattle.image_writer.proofs.Rows.{image_writer_rows}
use Rattle.reset.proofs.Rows.{reset_rows}
use Rattle.load.proofs.Rows.{load_rows}
use Rattle.config_read.proofs.Rows.{config_read_rows}
use Rattle.config_write.proofs.Rows.{config_write_rows}
use Rattle.search.proofs.Rows.{search_rows}
use Rattle.data_window.proofs.Rows.{data_window_rows}
use Rattle.data_order.proofs.Rows.{data_order_rows}
use Rattle.data_cells.proofs.Rows.{data_cells_rows}
use Rattle.data_access.proofs.Rows.{data_access_rows}
use Rattle.address_convert.proofs.Rows.{address_convert_rows}
use Rattle.resource_descriptor.proofs.Rows.{resource_descriptor_rows}
use Rattle.resource.proofs.Rows.{resource_rows}
use Rattle.resource_walk.proofs.Rows.{resource_walk_rows}
use Rattle.interrupt_array.proofs.Rows.{interrupt_array_rows}
use Rattle.interrupt_edit.proofs.Rows.{interrupt_edit_rows}
use Rattle.interrupt_hook.proofs.Rows.{interrupt_hook_rows}
use Rattle.interrupt_list.proofs.Rows.{interrupt_list_rows}
use Rattle.card_used.proofs.Rows.{card_used_rows}
use Rattle.unsupported.proofs.Rows.{unsupported_rows}
use Rattle.call.proofs.Rows.{call_rows}
use Rattle.reference.proofs.Rows.{reference_rows}
use Rattle.proved_cases.specs.SecondTable.{SecondTable}
use Rattle.proved_cases.proofs.Rows.{program_runs_lem}

pub second_table : SecondTable
second_table =
    record {
      numbers = numbers_rows;
      board = board_rows;
      window = window_rows;
      window_list = window_list_rows;
      window_listing = window_listing_rows;
      window_start = window_start_rows;
      image_entry = image_entry_rows;
      image_record = image_record_rows;
      image_layout = image_layout_rows;
      image_refusals = image_refusals_rows;
      cell_layout = cell_layout_rows;
      image_check = image_check_rows;
      image_writer = image_writer_rows;
      reset = reset_rows;
      load = load_rows;
      config_read = config_read_rows;
      config_write = config_write_rows;
      search = search_rows;
      data_window = data_window_rows;
      data_order = data_order_rows;
      data_cells = data_cells_rows;
      data_access = data_access_rows;
      address_convert = address_convert_rows;
      resource_descriptor = resource_descriptor_rows;
      resource = resource_rows;
      resource_walk = resource_walk_rows;
      interrupt_array = interrupt_array_rows;
      interrupt_edit = interrupt_edit_rows;
      interrupt_hook = interrupt_hook_rows;
      interrupt_list = interrupt_list_rows;
      card_used = card_used_rows;
      unsupported = unsupported_rows;
      call = call_rows;
      reference = reference_rows;
      runs = program_runs_lem;
    }
