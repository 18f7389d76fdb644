-- The second table: the runs worked out on the reference machine, and so for the program's step.
use mathlib.Core.List.{List, [], ◌∷◌}
use mathlib.Core.Path.{refl, ◌∙◌}
use Rattle.numbers.specs.Numbers.{little, big, reversed}
use Rattle.numbers.specs.Tables.{table_from}
use Rattle.window_list.specs.Windows.{window_at, gather, open_windows, put, put_all, list_of}
use Rattle.window_listing.specs.Listing.{listed_number, listed_values}
use Rattle.config_read.specs.Target.{target}
use Rattle.search.specs.Search.{matching, search_number, sought_number}
use Rattle.data_window.specs.Find.{in_list, find}
use Rattle.resource_descriptor.specs.Descriptor.{descriptor_bytes, descriptors_bytes}
use Rattle.window_start.specs.Start.{start_in}
use Rattle.resource.specs.Resource.{windows_from, described, resource}
use Rattle.interrupt_list.specs.Listing.{hook_listed_number, hook_listed_values}
use Rattle.interrupt_hook.specs.Meaning.{is_among, without}
use Rattle.image_entry.specs.Entry.{entry_ok}
use Rattle.image_record.specs.Record.{record_ok}
use Rattle.cell_layout.specs.Cells.{cells_before}
use Rattle.image_layout.specs.Image.{sum}
use Rattle.image_refusals.specs.Refusals.{first_bad, first_refusal}
use Rattle.reference.specs.Reference.{joined, cell_target_at, split, image_verdict, reference_step, reference_queried}
use Rattle.reference.specs.Run.{reference_responses}
use Rattle.reference.proofs.Refinement.{refinement}
use Rattle.proved_cases.specs.B1.{record_bytes}
use Rattle.proved_cases.specs.SmallBoard.{small_image}
use Rattle.proved_cases.specs.Rows.{Run, EveryRow, run_table, program_runs, reference_runs}

reference_runs_lem : EveryRow reference_runs run_table
unfolding record_bytes small_image little big table_from window_at gather open_windows put put_all list_of listed_number listed_values target matching search_number sought_number in_list find cell_target_at reversed descriptor_bytes descriptors_bytes windows_from start_in described resource hook_listed_number hook_listed_values is_among without entry_ok record_ok cells_before sum first_bad first_refusal joined split image_verdict reference_step reference_queried reference_responses
reference_runs_lem = (refl, (refl, (refl, (refl, (refl, (refl, (refl, (refl, tt))))))))

-- rows of the reference machine are rows of the program
pub as_program : (rs : List Run) → EveryRow reference_runs rs → EveryRow program_runs rs
as_program [] e = tt
as_program (r ∷ rs) e = ((refinement r.cells _).answered ∙ e.0, as_program rs e.1)

pub program_runs_lem : EveryRow program_runs run_table
program_runs_lem = as_program run_table reference_runs_lem
