-- THE SECOND TABLE: one sentence over all rows beside P1 to P14. A crate's rows stand in the crate,
-- where an edit of a rule meets them; runs on a small board are in Rows.antt.
use Rattle.numbers.specs.Rows.{NumbersRows}
use Rattle.board.specs.Rows.{BoardRows}
use Rattle.window.specs.Rows.{WindowRows}
use Rattle.window_list.specs.Rows.{WindowListRows}
use Rattle.window_listing.specs.Rows.{WindowListingRows}
use Rattle.window_start.specs.Rows.{WindowStartRows}
use Rattle.image_entry.specs.Rows.{ImageEntryRows}
use Rattle.image_record.specs.Rows.{ImageRecordRows}
use Rattle.image_layout.specs.Rows.{ImageLayoutRows}
use Rattle.image_refusals.specs.Rows.{ImageRefusalsRows}
use Rattle.cell_layout.specs.Rows.{CellLayoutRows}
use Rattle.image_check.specs.Rows.{ImageCheckRows}
use Rattle.image_writer.specs.Rows.{ImageWriterRows}
use Rattle.reset.specs.Rows.{ResetRows}
use Rattle.load.specs.Rows.{LoadRows}
use Rattle.config_read.specs.Rows.{ConfigReadRows}
use Rattle.config_write.specs.Rows.{ConfigWriteRows}
use Rattle.search.specs.Rows.{SearchRows}
use Rattle.data_window.specs.Rows.{DataWindowRows}
use Rattle.data_order.specs.Rows.{DataOrderRows}
use Rattle.data_cells.specs.Rows.{DataCellsRows}
use Rattle.data_access.specs.Rows.{DataAccessRows}
use Rattle.address_convert.specs.Rows.{AddressConvertRows}
use Rattle.resource_descriptor.specs.Rows.{ResourceDescriptorRows}
use Rattle.resource.specs.Rows.{ResourceRows}
use Rattle.resource_walk.specs.Rows.{ResourceWalkRows}
use Rattle.interrupt_array.specs.Rows.{InterruptArrayRows}
use Rattle.interrupt_edit.specs.Rows.{InterruptEditRows}
use Rattle.interrupt_hook.specs.Rows.{InterruptHookRows}
use Rattle.interrupt_list.specs.Rows.{InterruptListRows}
use Rattle.card_used.specs.Rows.{CardUsedRows}
use Rattle.unsupported.specs.Rows.{UnsupportedRows}
use Rattle.call.specs.Rows.{CallRows}
use Rattle.reference.specs.Rows.{ReferenceRows}
use Rattle.proved_cases.specs.Rows.{EveryRow, program_runs, run_table}

pub record SecondTable : Type 0 where
  -- the ground
  pub numbers : NumbersRows
  pub board : BoardRows
  -- windows
  pub window : WindowRows
  pub window_list : WindowListRows
  pub window_listing : WindowListingRows
  pub window_start : WindowStartRows
  -- images, and the board that is loaded from one
  pub image_entry : ImageEntryRows
  pub image_record : ImageRecordRows
  pub image_layout : ImageLayoutRows
  pub image_refusals : ImageRefusalsRows
  pub cell_layout : CellLayoutRows
  pub image_check : ImageCheckRows
  pub image_writer : ImageWriterRows
  pub reset : ResetRows
  pub load : LoadRows
  -- registers
  pub config_read : ConfigReadRows
  pub config_write : ConfigWriteRows
  pub search : SearchRows
  -- data
  pub data_window : DataWindowRows
  pub data_order : DataOrderRows
  pub data_cells : DataCellsRows
  pub data_access : DataAccessRows
  pub address_convert : AddressConvertRows
  -- resources
  pub resource_descriptor : ResourceDescriptorRows
  pub resource : ResourceRows
  pub resource_walk : ResourceWalkRows
  -- interrupts, used marks, and the calls that always give -2
  pub interrupt_array : InterruptArrayRows
  pub interrupt_edit : InterruptEditRows
  pub interrupt_hook : InterruptHookRows
  pub interrupt_list : InterruptListRows
  pub card_used : CardUsedRows
  pub unsupported : UnsupportedRows
  -- answers
  pub call : CallRows
  -- what the claims are made of
  pub reference : ReferenceRows
  -- calls from a fresh board, of the program's step
  pub runs : EveryRow program_runs run_table
