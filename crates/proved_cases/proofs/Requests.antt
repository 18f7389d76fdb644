-- The requests' table: the runs worked out on the reference machine, and so for the program's step.
use mathlib.Core.Path.{refl}
use Rattle.numbers.specs.Numbers.{little, big, reversed}
use Rattle.numbers.specs.Tables.{table_from}
use Rattle.window_list.specs.Windows.{window_at, gather, open_windows, put, put_all, list_of}
use Rattle.config_read.specs.Target.{target}
use Rattle.search.specs.Search.{matching, search_number, sought_number}
use Rattle.data_window.specs.Find.{in_list, find}
use Rattle.image_entry.specs.Entry.{entry_ok}
use Rattle.image_record.specs.Record.{record_ok}
use Rattle.cell_layout.specs.Cells.{cells_before}
use Rattle.image_layout.specs.Image.{sum}
use Rattle.image_refusals.specs.Refusals.{first_bad, first_refusal}
use Rattle.call_edition.proofs.Rows.{call_edition_rows}
use Rattle.config_masked.proofs.Rows.{config_masked_rows}
use Rattle.reference.specs.Reference.{cell_target_at, split, image_verdict, reference_step, reference_queried}
use Rattle.reference.specs.Run.{reference_responses}
use Rattle.proved_cases.specs.B1.{record_bytes, b1}
use Rattle.proved_cases.specs.Rows.{EveryRow, reference_runs}
use Rattle.proved_cases.specs.Requests.{draft_runs, status_runs, RequestsTable}
use Rattle.proved_cases.proofs.Rows.{as_program}

draft_runs_lem : EveryRow reference_runs draft_runs
unfolding record_bytes b1 little big reversed table_from window_at gather open_windows put put_all list_of matching search_number sought_number in_list find cell_target_at entry_ok record_ok cells_before sum first_bad first_refusal split image_verdict reference_step reference_queried reference_responses
draft_runs_lem = (refl, (refl, (refl, (refl, tt))))

status_runs_lem : EveryRow reference_runs status_runs
unfolding record_bytes little big table_from window_at gather open_windows put put_all list_of target entry_ok record_ok cells_before sum first_bad first_refusal split image_verdict reference_step reference_responses
status_runs_lem = (refl, (refl, tt))

pub requests_table : RequestsTable
requests_table =
    record {
      call_edition = call_edition_rows;
      draft_calls = as_program draft_runs draft_runs_lem;
      config_masked = config_masked_rows;
      status_calls = as_program status_runs status_runs_lem;
    }
