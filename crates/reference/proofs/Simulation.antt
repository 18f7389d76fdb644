-- For claim 2, one call: the program's step on the parts of a reference state is the reference
-- machine's step.
use Prim.Native.Nat.{ℕ, ◌+◌, ◌*◌, ◌-◌, ◌≤◌}
use native.Mathlib.Omega.{arith}
use mathlib.Core.Path.{◌≡◌, refl, ap}
use mathlib.Core.List.{List, [], ◌++◌}
use lib.Dec.{ltb, eqb}
use lib.ListN.{length, replicate, drop, length-replicate}
use lib.Seq.{take_at}
use Rattle.numbers.specs.Tables.{table_from}
use Rattle.board.specs.Layout.{functions_max, record_size, registers_each, windows_max}
use Rattle.numbers.proofs.Tables.{table_constant}
use Rattle.window_list.specs.Windows.{gather, open_windows, put_all, list_of}
use Rattle.window_list.specs.Kept.{kept_list}
use Rattle.window_list.proofs.KeptArray.{kept_of}
use Rattle.window_listing.proofs.Answers.{number_is, values_are}
use Rattle.cell_layout.specs.Cells.{cells_before, total, offsets_of}
use Rattle.image_refusals.specs.Refusals.{is_accepted}
use Rattle.image_layout.specs.Image.{image_size, image_of}
use Rattle.reset.specs.Reset.{reset}
use Rattle.load.specs.Load.{padded, load}
use Rattle.image_writer.specs.Write.{write_image}
use Rattle.reset.proofs.Zeroed.{zeroed_length}
use Rattle.cell_layout.proofs.Ranges.{offset_at_lem}
use Rattle.call.specs.declared.call.Call.{Call}
use Rattle.call.specs.declared.call.Access.TheVariants.{Read, FastRead, Write}
use Rattle.call.specs.declared.call.Call.TheVariants.{Load, Reset, WriteImage, Config, Data, GetResource, HookInterrupt, UnhookInterrupt, SetCardUsed, Ask}
use Rattle.call.specs.declared.call.Query.{Query}
use Rattle.call.specs.declared.call.Query.TheVariants.{FindPciDevice, FindPciClasscode, BusToCpu, CpuToBus, ListChain, GetCardUsed, SpecialCycle, GetRouting, SetInterrupt, ListWindow}
use Rattle.reference.specs.State.{step, queried}
use Rattle.reference.specs.Reference.{Reference, exponent_of, joined, fresh, image_records, windows_of, image_bytes, image_verdict, blanked_of, reference_step, reference_queried, reference_start}
use Rattle.reference.specs.Run.{parts_of, start}
use Rattle.reference.proofs.Tests.{if_either}
use Rattle.reference.proofs.Records.{Ruled, joined_length}
use Rattle.reference.proofs.Same.{verdict_same, accepted_whole, installed_same, restart_same, no_hooks, no_marks}
use Rattle.reference.proofs.Chained.{no_chains}
use Rattle.reference.proofs.Sound.{Sound, sound_with, Simulated, Answered, as_outcome, answered, count_same}
use Rattle.reference.proofs.Configuration.{same_device, same_class, same_read, same_fast_read, same_write_config}
use Rattle.reference.proofs.Data.{same_read_data, same_fast_read_data, same_write_data, same_bus_to_cpu, same_cpu_to_bus}
use Rattle.reference.proofs.Resource.{same_resource}
use Rattle.reference.proofs.Chains.{same_hook, same_unhook, same_list_chain}
use Rattle.reference.proofs.Used.{same_get_used, same_set_used}

-- a fresh board is sound
fresh_sound : (rs : List (List ℕ)) (cells : List ℕ) → Ruled rs → total (exponent_of rs) ≤ length cells → Sound (fresh rs cells)
fresh_sound rs cells k h =
    record { kept = k; fits = rw (zeroed_length (total (exponent_of rs)) cells h) h; chained = no_chains rs }

module _ (b : Reference) (s : Sound b) where
  same_load : (own : List ℕ) → Simulated b Load own
  unfolding step reference_step load parts_of
  same_load own =
      rw (verdict_same own (length b.cells))
      (if_either (is_accepted (image_verdict own (length b.cells)))
      (λ e.
      let w = accepted_whole own (length b.cells) e in
      rw e (record {
        answer = refl;
        parts = installed_same own b.cells w;
        own = refl;
        sound = fresh_sound (image_records own) b.cells w.kept w.fits;
      }))
      (λ e. rw e (as_outcome b s)))

  same_reset : (own : List ℕ) → Simulated b Reset own
  unfolding step reference_step reset parts_of
  same_reset own =
      rw (offset_at_lem (exponent_of b.records) windows_max (omega arith))
      (if_either (ltb (length b.cells) (total (exponent_of b.records)))
      (λ e. rw e (as_outcome b s))
      (λ e. rw e (record {
        answer = refl;
        parts = restart_same b.records s.kept.sized b.cells s.kept.few;
        own = refl;
        sound = fresh_sound b.records b.cells s.kept s.fits;
      })))

  image_same : image_of (length b.records) (padded (joined b.records)) ≡ image_bytes b.records
  image_same =
      let j = joined b.records in
      rw (take_at j (replicate (functions_max * record_size - length j) 0) (record_size * length b.records) (joined_length b.records s.kept.sized))

  same_write : (own : List ℕ) → Simulated b WriteImage own
  unfolding step reference_step write_image parts_of
  same_write own =
      rw (count_same b s)
      (if_either (ltb (length own) (image_size (length b.records)))
      (λ e. rw e (as_outcome b s))
      (λ e.
      if_either (eqb (length b.records) 0) (λ z. rw (e, z) (as_outcome b s))
      (λ z. rw (e, z) (record { answer = refl; parts = refl; own = ap (λ l. l ++ drop (image_size (length b.records)) own) image_same; sound = s }))))

  same_list : (n : ℕ) → Answered b (ListWindow n)
  unfolding queried reference_queried parts_of
  same_list n =
      rw (kept_of (length b.records) (exponent_of b.records) b.registers s.kept.few, number_is (windows_of b) n, values_are (windows_of b) n)

  same_query : (q : Query) → Answered b q
  unfolding queried reference_queried
  same_query (FindPciDevice id index) = same_device b s id index
  same_query (FindPciClasscode class index) = same_class b s class index
  same_query (BusToCpu handle address) = same_bus_to_cpu b s handle address
  same_query (CpuToBus handle address) = same_cpu_to_bus b s handle address
  same_query (ListChain line index) = same_list_chain b s line index
  same_query (GetCardUsed handle) = same_get_used b s handle
  same_query (SpecialCycle bus message) = refl
  same_query (GetRouting handle) = refl
  same_query (SetInterrupt handle mode) = refl
  same_query (ListWindow n) = same_list n

-- the board that a query sees
blanked_sound : (b : Reference) → Sound b → Sound (blanked_of b)
blanked_sound b s = sound_with s (rw length-replicate (omega arith)) s.chained

module _ (b : Reference) (s : Sound b) where
  same_ask : (q : Query) (own : List ℕ) → Simulated b (Ask q) own
  unfolding step reference_step parts_of
  same_ask q own = answered b s (same_query (blanked_of b) (blanked_sound b s) q)

  pub same : (c : Call) (own : List ℕ) → Simulated b c own
  unfolding step reference_step
  same Load own = same_load b s own
  same Reset own = same_reset b s own
  same WriteImage own = same_write b s own
  same (Config width handle register Read) own = same_read b s width handle register own
  same (Config width handle register FastRead) own = same_fast_read b s width handle register own
  same (Config width handle register (Write value)) own = same_write_config b s width handle register value own
  same (Data space width handle address Read) own = same_read_data b s space width handle address own
  same (Data space width handle address FastRead) own = same_fast_read_data b s space width handle address own
  same (Data space width handle address (Write value)) own = same_write_data b s space width handle address value own
  same (GetResource handle) own = same_resource b s handle own
  same (HookInterrupt handle handler parameter) own = same_hook b s handle handler parameter own
  same (UnhookInterrupt handle) own = same_unhook b s handle own
  same (SetCardUsed handle status call_back) own = same_set_used b s handle status call_back own
  same (Ask query) own = same_ask query own

no_cells : total (exponent_of []) ≡ 0
unfolding cells_before
no_cells = refl

pub sound_start : (cells : List ℕ) → Sound (reference_start cells)
sound_start cells =
    record {
      kept = record { few = omega arith; sized = tt; ruled = λ i h. absurd (omega arith); small = rw no_cells (omega arith) };
      fits = rw no_cells (omega arith);
      chained = no_chains [];
    }

no_windows_lem : kept_list (list_of 0 (exponent_of []) (λ i register. 0)) ≡ replicate windows_max 0
unfolding kept_list list_of open_windows gather put_all
no_windows_lem = refl

no_offsets : offsets_of (exponent_of []) ≡ replicate (windows_max + 1) 0
unfolding cells_before table_from
no_offsets = refl

no_records : padded (joined []) ≡ replicate (functions_max * record_size) 0
unfolding joined
no_records = refl

pub start_same : (cells : List ℕ) → start cells ≡ parts_of (reference_start cells)
unfolding start parts_of
start_same cells =
    rw (no_records, table_constant 0 (functions_max * registers_each) 0, no_windows_lem, no_offsets, no_hooks, no_marks)
