-- Rows with literal numbers of what C is handed: the lengths of the lent parts, flags and steps as
-- numbers, and configuration calls with a width that is none (docs/DECISIONS.md, [4]); those of
-- data calls are in the crate data_access.
use Rattle.std.specs.Prelude.{ℕ, true, false, List, [], ◌∷◌, map, ◌≡◌, pos, neg_ℤ, Some, None, Ok, Err}
use Rattle.board.specs.Addresses.{bus, cpu}
use Rattle.board.specs.Parts.{Parts}
use Rattle.board.specs.Statuses.{successful, set_failed, buffer_too_small, general_error, bad_handle}
use Rattle.board.specs.declared.status.CallRefusal.TheVariants.{BadHandle}
use Rattle.image_refusals.specs.declared.verdict.ImageRefusal.TheVariants.{Length, Count, Record}
use Rattle.image_writer.specs.Write.{writer_outcome}
use Rattle.load.specs.Load.{load_outcome}
use Rattle.reset.specs.Reset.{reset_outcome}
use Rattle.config_write.specs.Write.{config_written}
use Rattle.data_access.specs.Data.{data_written}
use Rattle.resource.specs.Resource.{resource_outcome}
use Rattle.card_used.specs.Used.{mark_outcome}
use Rattle.interrupt_hook.specs.Chain.{hook_outcome}
use Rattle.bios.specs.Exports.{
  c_read_config,
  c_fast_read_config,
  c_write_config,
  verdict_numbers,
  verdict_shown,
  load_numbers,
  load_shown,
  reset_numbers,
  reset_shown,
  left,
  out_left,
  cells_left,
  descriptors_left,
  hooks_left,
  used_left,
  config_numbers,
  config_shown,
  read_numbers,
  read_shown,
  to_cpu_shown,
  to_bus_shown,
  used_numbers,
  used_shown,
  fast_numbers,
  fast_shown,
  step_numbers,
  step_shown,
}
use Rattle.bios.specs.Layout.{part_bytes}

pub record BiosRows : Type 0 where
  -- another width is refused before all else: -8 and 0, all ones and the flag, nothing written
  pub other_read : (header registers : List ℕ) (handle register : ℕ)
      → read_shown (c_read_config None header registers handle register)
      ≡ read_numbers (neg_ℤ (pos 8)) 0
  pub other_fast : (header registers : List ℕ) (handle register : ℕ)
      → c_fast_read_config None header registers handle register
      ≡ record { value = 0xFFFFFFFF; fault = true }
  pub other_write : (header records registers windows : List ℕ) (handle register value : ℕ)
      → config_shown (c_write_config None header records registers windows handle register value)
      ≡ config_numbers (neg_ℤ (pos 8)) registers windows
  -- a verdict's number, and with 6 its place
  pub verdicts : map verdict_shown (Ok tt ∷ Err Length ∷ Err (Record 15) ∷ [])
      ≡ verdict_numbers (pos 0) 0 ∷ verdict_numbers (pos 1) 0 ∷ verdict_numbers (pos 6) 15 ∷ []
  -- a number, and what is left of a lent part
  pub hooks :
      map hooks_left (hook_outcome successful (1 ∷ []) ∷ hook_outcome set_failed (2 ∷ []) ∷ [])
      ≡ left (pos 0) (1 ∷ []) ∷ left (neg_ℤ (pos 6)) (2 ∷ []) ∷ []
  pub marks_left :
      map used_left (mark_outcome successful (1 ∷ []) ∷ mark_outcome bad_handle (2 ∷ []) ∷ [])
      ≡ left (pos 0) (1 ∷ []) ∷ left (neg_ℤ (pos 9)) (2 ∷ []) ∷ []
  pub cells :
      map cells_left (data_written successful (1 ∷ []) ∷ data_written general_error (2 ∷ []) ∷ [])
      ≡ left (pos 0) (1 ∷ []) ∷ left (neg_ℤ (pos 8)) (2 ∷ []) ∷ []
  pub descriptors :
      map descriptors_left
      (resource_outcome successful (1 ∷ []) ∷ resource_outcome buffer_too_small (2 ∷ []) ∷ [])
      ≡ left (pos 0) (1 ∷ []) ∷ left (neg_ℤ (pos 7)) (2 ∷ []) ∷ []
  pub images :
      map out_left (writer_outcome (Ok tt) (1 ∷ []) ∷ writer_outcome (Err Count) (2 ∷ []) ∷ [])
      ≡ left (pos 0) (1 ∷ []) ∷ left (pos 3) (2 ∷ []) ∷ []
  pub configuration : config_shown (config_written successful (1 ∷ []) (2 ∷ []))
      ≡ config_numbers (pos 0) (1 ∷ []) (2 ∷ [])
  -- a load's number and place, a reset's number, and the parts that they leave
  pub loads : (p : Parts)
      → map load_shown (load_outcome (Ok tt) p ∷ load_outcome (Err (Record 15)) p ∷ [])
      ≡ load_numbers (pos 0) 0 p ∷ load_numbers (pos 6) 15 p ∷ []
  pub resets : (p : Parts)
      → map reset_shown (reset_outcome successful p ∷ reset_outcome buffer_too_small p ∷ [])
      ≡ reset_numbers (pos 0) p ∷ reset_numbers (neg_ℤ (pos 7)) p ∷ []
  -- of what is refused the values are 0
  pub reads : map read_shown (Ok 7 ∷ Err BadHandle ∷ [])
      ≡ read_numbers (pos 0) 7 ∷ read_numbers (neg_ℤ (pos 9)) 0 ∷ []
  pub to_cpu : map to_cpu_shown (Ok (cpu 0x80000004) ∷ Err BadHandle ∷ [])
      ≡ read_numbers (pos 0) 0x80000004 ∷ read_numbers (neg_ℤ (pos 9)) 0 ∷ []
  pub to_bus : map to_bus_shown (Ok (bus 0x80000004) ∷ Err BadHandle ∷ [])
      ≡ read_numbers (pos 0) 0x80000004 ∷ read_numbers (neg_ℤ (pos 9)) 0 ∷ []
  pub marks : map used_shown (Ok (record { status = 2; call_back = 0x3000 }) ∷ Err BadHandle ∷ [])
      ≡ used_numbers (pos 0) 2 0x3000 ∷ used_numbers (neg_ℤ (pos 9)) 0 0 ∷ []
  -- the fault flag is 0 or 1
  pub flags : map fast_shown
      (record { value = 7; fault = false } ∷ record { value = 9; fault = true } ∷ [])
      ≡ fast_numbers 7 0 ∷ fast_numbers 9 1 ∷ []
  -- a step: 1, the six fields and where it goes on, or 0, zeros and where it stood
  pub steps : map (step_shown 60)
      (Some (record {
        descriptor = record { next = 20; flags = 2; start = 3; length = 4; offset = 5; dmaoffset = 6 };
        following = 80;
      })
      ∷ None ∷ [])
      ≡ step_numbers 1 (20 ∷ 2 ∷ 3 ∷ 4 ∷ 5 ∷ 6 ∷ []) 80
      ∷ step_numbers 0 (0 ∷ 0 ∷ 0 ∷ 0 ∷ 0 ∷ 0 ∷ []) 60 ∷ []
  -- bytes of header, records, registers, windows, cell offsets, hooks and used marks; then none
  pub parts : map part_bytes (0 ∷ 1 ∷ 2 ∷ 3 ∷ 4 ∷ 5 ∷ 6 ∷ 7 ∷ [])
      ≡ 16 ∷ 8704 ∷ 4096 ∷ 768 ∷ 388 ∷ 192 ∷ 128 ∷ 0 ∷ []
