-- The proved cases, worked out from the bytes of B1's image on the reference machine, and so for the
-- program's step.
use mathlib.Core.List.{List, [], ◌∷◌}
use mathlib.Core.Path.{◌≡◌, refl, ◌∙◌}
use lib.IntN.{pos}
use lib.ListN.{replicate}
use Rattle.numbers.specs.Numbers.{little, big, reversed}
use Rattle.numbers.specs.Tables.{table_from}
use Rattle.window_list.specs.Windows.{window_at, gather, open_windows, put, put_all, list_of}
use Rattle.window_listing.specs.Listing.{listed_number, listed_values}
use Rattle.config_read.specs.Target.{target}
use Rattle.search.specs.Search.{matching, search_number, sought_number}
use Rattle.data_window.specs.Find.{in_list, find}
use Rattle.resource_descriptor.specs.Descriptor.{descriptor_bytes, descriptors_bytes}
use Rattle.window_start.specs.Start.{start_in}
use Rattle.resource.specs.Resource.{windows_from, described, resource}
use Rattle.interrupt_list.specs.Listing.{hook_listed_number, hook_listed_values}
use Rattle.interrupt_hook.specs.Meaning.{is_among}
use Rattle.image_entry.specs.Entry.{entry_ok}
use Rattle.image_record.specs.Record.{record_ok}
use Rattle.cell_layout.specs.Cells.{cells_before}
use Rattle.image_layout.specs.Image.{sum}
use Rattle.image_refusals.specs.Refusals.{first_bad, first_refusal}
use Rattle.call.specs.declared.call.Call.TheVariants.{Load}
use Rattle.call.specs.Answers.{answer, zeros}
use Rattle.reference.specs.Reference.{reference_start, cell_target_at, split, image_verdict, reference_step, reference_queried}
use Rattle.reference.specs.Run.{request, response, reference_responses}
use Rattle.reference.proofs.Refinement.{refinement}
use Rattle.proved_cases.specs.B1.{record_bytes, b1}
use Rattle.proved_cases.specs.Cases.{Case, case, buffer, cells, case_table, cells2064, program_machine, reference_machine, EveryCase, ProvedCases, B1Short}

reference_cases : EveryCase reference_machine case_table
unfolding record_bytes b1 little big table_from window_at gather open_windows put put_all list_of listed_number listed_values target matching search_number sought_number in_list find cell_target_at reversed descriptor_bytes descriptors_bytes windows_from start_in described resource hook_listed_number hook_listed_values is_among entry_ok record_ok cells_before sum first_bad first_refusal split image_verdict reference_step reference_queried reference_responses
reference_cases =
    (refl, (refl, (refl, (refl, (refl, (refl, (refl, (refl, (refl, (refl, (refl, (refl, (refl, (refl, (refl, tt)))))))))))))))

-- cases of the reference machine are cases of the program
as_program : (rows : List Case) → EveryCase reference_machine rows → EveryCase program_machine rows
as_program [] e = tt
as_program (case calls answers ∷ rows) e = ((refinement cells2064 _).answered ∙ e.0, as_program rows e.1)
as_program (buffer call left ∷ rows) e = ((refinement cells2064 _).answered ∙ e.0, as_program rows e.1)
as_program (cells l readings ∷ rows) e = (e.0, as_program rows e.1)

pub proved_cases : ProvedCases
proved_cases = record { program = as_program case_table reference_cases; reference = reference_cases }

b1_short_reference : reference_responses (reference_start (replicate 2063 0)) (request Load b1 ∷ []) ≡ response (answer (pos 8) zeros) b1 ∷ []
unfolding record_bytes b1 little big entry_ok record_ok cells_before sum first_bad first_refusal split image_verdict reference_step reference_queried reference_responses
b1_short_reference = refl

pub b1_short : B1Short
b1_short = (refinement (replicate 2063 0) (request Load b1 ∷ [])).answered ∙ b1_short_reference
