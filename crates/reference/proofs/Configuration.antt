-- For claim 2: the simulation of searches and configuration calls.
use Prim.Native.Nat.{ℕ, ◌<◌}
use native.Mathlib.Omega.{arith}
use mathlib.Core.Bool.{Bool}
use mathlib.Core.Path.{◌≡◌, refl, sym, ap}
use mathlib.Core.List.{List}
use lib.ListN.{length}
use Rattle.numbers.specs.declared.number.Width.{Width}
use Rattle.board.specs.Handles.{is_handle}
use Rattle.board.specs.Layout.{registers_each, register_byte}
use Rattle.board.specs.Parts.{with_registers}
use Rattle.call_edition.specs.Edition.{id_of, class_of}
use Rattle.call_edition.specs.declared.edition.InEdition.{InEdition}
use Rattle.window_list.specs.Windows.{window_list}
use Rattle.window_list.specs.Kept.{kept_list}
use Rattle.config_read.specs.Target.{target}
use Rattle.config_read.specs.Read.{read_of, fast_read_of}
use Rattle.config_write.specs.Write.{ConfigWritten, write_to}
use Rattle.search.specs.Search.{device_matches, class_matches, matching}
use Rattle.board.specs.declared.status.CallRefusal.{CallRefusal}
use Rattle.std.specs.Prelude.{Result}
use Rattle.config_write.proofs.Moves.{list_follows}
use Rattle.search.proofs.Searches.{sought_number_lem, matching_same, device_same, class_same}
use Rattle.call.specs.declared.call.Access.TheVariants.{Read, FastRead, Write}
use Rattle.call.specs.declared.call.Call.TheVariants.{Config}
use Rattle.call.specs.declared.call.Query.TheVariants.{FindPciDevice, FindPciClasscode}
use Rattle.call.specs.Answers.{of_status}
use Rattle.reference.specs.State.{outcome, step, queried}
use Rattle.reference.specs.Reference.{Reference, windows_of, target_of, registers_after, with_registers_of, write_of, reference_step, reference_queried}
use Rattle.reference.specs.Run.{parts_of}
use Rattle.reference.proofs.Tests.{if_target}
use Rattle.reference.proofs.Registers.{flat, flat_byte, flat_number, list_kept, written_same}
use Rattle.reference.proofs.Sound.{Sound, sound_with, Same, Simulated, Answered, as_outcome, count_same}

-- the window list, worked out from the lent parts
list_afresh : (b : Reference) → Sound b → window_list (parts_of b).header (parts_of b).records (parts_of b).registers ≡ windows_of b
unfolding parts_of
list_afresh b s = list_kept b.records s.kept.sized b.registers s.kept.few

-- what a write of w registers leaves of a board's lent parts
abbrev pub left : Reference → ℕ → ℕ → ℕ → Result ℕ CallRefusal → ConfigWritten
left b w register value t =
    let p = parts_of b in write_to p.header p.records p.registers p.windows w register value t

module _ (b : Reference) (s : Sound b) where
  -- the matches of a search, whatever it looks for in a function's registers
  matching_flat : (m : (ℕ → ℕ) → Bool) → ((f g : ℕ → ℕ) → ((at : ℕ) → at < registers_each → f at ≡ g at) → m f ≡ m g)
      → matching (λ i. m (register_byte (flat b.registers) i)) 0 (length b.records) ≡ matching (λ i. m (b.registers i)) 0 (length b.records)
  matching_flat m depends =
      matching_same (λ i. m (register_byte (flat b.registers) i)) (λ i. m (b.registers i)) 0 (length b.records)
      (λ i h. depends (register_byte (flat b.registers) i) (b.registers i) (λ at l. flat_byte b.registers i at (omega (arith, s.kept.few)) l))

  pub same_device : (id : InEdition) (index : ℕ) → Answered b (FindPciDevice id index)
  unfolding queried reference_queried parts_of
  same_device id index = rw (count_same b s, matching_flat (device_matches (id_of id)) (device_same (id_of id)), sought_number_lem)

  pub same_class : (class : InEdition) (index : ℕ) → Answered b (FindPciClasscode class index)
  unfolding queried reference_queried parts_of
  same_class class index = rw (count_same b s, matching_flat (class_matches (class_of class)) (class_same (class_of class)), sought_number_lem)

  target_same : (w handle register : ℕ) → target (is_handle (parts_of b).header handle) w handle register ≡ target_of b w handle register
  unfolding parts_of
  target_same w handle register = rw (count_same b s)

  -- a read and a fast read of the same registers
  abbrev Reads : ℕ → ℕ → Result ℕ CallRefusal → Type 0
  Reads w register t =
      (read_of (register_byte (flat b.registers)) w register t ≡ read_of b.registers w register t)
      × (fast_read_of (register_byte (flat b.registers)) w register t ≡ fast_read_of b.registers w register t)

  reads : (w handle register : ℕ) → Reads w register (target_of b w handle register)
  reads w handle register =
      if_target (Reads w register) (length b.records) w handle register
      (λ i h e k. let n = flat_number b.registers w i register (omega (arith, s.kept.few)) k in (rw n, rw n)) (refl, refl) (refl, refl)

  pub same_read : (width : Width) (handle register : ℕ) (own : List ℕ) → Simulated b (Config width handle register Read) own
  unfolding step reference_step parts_of
  same_read width handle register own = rw (target_same _ handle register, (reads _ handle register).0) (as_outcome b s)

  pub same_fast_read : (width : Width) (handle register : ℕ) (own : List ℕ) → Simulated b (Config width handle register FastRead) own
  unfolding step reference_step parts_of
  same_fast_read width handle register own = rw (target_same _ handle register, (reads _ handle register).1) (as_outcome b s)

  -- the list that a write leaves is that of the registers that it leaves
  pub follows : (w handle register value : ℕ)
      → (let o = left b w register value (target_of b w handle register) in
      o.windows ≡ kept_list (window_list (parts_of b).header (parts_of b).records o.registers))
  unfolding parts_of
  follows w handle register value =
      let p = parts_of b in
      rw (target_same w handle register)
      at (list_follows w p.header p.records p.registers p.windows handle register value (ap kept_list (sym (list_afresh b s))))

  -- a write, its list worked out anew
  abbrev Writes : ℕ → ℕ → ℕ → List ℕ → Result ℕ CallRefusal → Type 0
  Writes w register value own t =
      let p = parts_of b in
      let o = left b w register value t in
      Same
      (outcome (of_status o.status) (with_registers o.registers (kept_list (window_list p.header p.records o.registers)) p) own)
      (write_of b w register value own t)

  pub writes : (w handle register value : ℕ) (own : List ℕ) → Writes w register value own (target_of b w handle register)
  unfolding parts_of
  writes w handle register value own =
      if_target (Writes w register value own) (length b.records) w handle register
      (λ i h e k.
      let c = with_registers_of (registers_after b w i register value) b in
      let d : Sound c = sound_with s (omega arith) s.chained in
      rw (written_same b s.kept.sized w i register value (omega (arith, s.kept.few)) k, list_afresh c d) (as_outcome c d))
      (rw (list_afresh b s) (as_outcome b s)) (rw (list_afresh b s) (as_outcome b s))

  -- and with any list that is the one worked out anew
  writes_list : (w handle register value : ℕ) (own l : List ℕ)
      → (let o = left b w register value (target_of b w handle register) in
      l ≡ kept_list (window_list (parts_of b).header (parts_of b).records o.registers)
      → Same (outcome (of_status o.status) (with_registers o.registers l (parts_of b)) own) (write_of b w register value own (target_of b w handle register)))
  writes_list w handle register value own l e = rw e (writes w handle register value own)

  pub same_write_config : (width : Width) (handle register value : ℕ) (own : List ℕ)
      → Simulated b (Config width handle register (Write value)) own
  unfolding step reference_step
  same_write_config width handle register value own =
      rw (target_same _ handle register) (writes_list _ handle register value own _ (cc (follows _ handle register value)))
