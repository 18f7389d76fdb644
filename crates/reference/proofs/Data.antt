-- For claim 2: the simulation of data calls and conversions.
use Prim.Native.Nat.{ℕ, ◌+◌, ◌*◌, ◌-◌, ◌<◌}
use native.Mathlib.Omega.{arith}
use mathlib.Core.Bool.{Bool}
use mathlib.Core.List.{List, [], ◌∷◌}
use mathlib.Core.Path.{◌≡◌, refl}
use lib.ListN.{length, get_or}
use lib.Seq.{length-sets}
use borrow.Author.Tests.{le-ltb}
use Rattle.board.specs.Layout.{bases, windows_max, entries_at, entry_size, offset_at, byte_order, widths}
use Rattle.numbers.specs.Numbers.{bytes}
use Rattle.board.specs.declared.address.BusAddress.{BusAddress}
use Rattle.board.specs.declared.address.CpuAddress.{CpuAddress}
use Rattle.call_edition.specs.declared.edition.InEdition.{InEdition}
use Rattle.numbers.specs.declared.number.Width.{Width}
use Rattle.window.specs.Window.{Window}
use Rattle.window_list.proofs.KeptArray.{kept_of}
use Rattle.data_cells.specs.Cells.{cell_target_of, cell_target}
use Rattle.board.specs.Spaces.{space_number}
use Rattle.data_window.specs.Find.{Finding, holds, offers, in_list, find, find_in, find_named}
use Rattle.data_order.specs.Orders.{cell_distance}
use Rattle.std.specs.Prelude.{Ok, Err}
use Rattle.board.specs.declared.space.Space.{Space}
use Rattle.data_window.proofs.Searches.{held}
use Rattle.data_window.proofs.OnBus.{found_named_lem}
use Rattle.cell_layout.specs.Cells.{offsets_of}
use Rattle.load.specs.Load.{padded}
use Rattle.cell_layout.proofs.Ranges.{offset_at_lem, cell_ranges}
use Rattle.call.specs.declared.call.Access.TheVariants.{Read, FastRead, Write}
use Rattle.call.specs.declared.call.Call.TheVariants.{Data}
use Rattle.call.specs.declared.call.Query.TheVariants.{BusToCpu, CpuToBus}
use Rattle.reference.specs.State.{step, queried}
use Rattle.reference.specs.Reference.{Reference, entry_field, exponent_of, joined, windows_of, find_for, find_named_for, cell_target_at, cell_target_for, reference_step, reference_queried}
use Rattle.reference.specs.Run.{parts_of}
use Rattle.reference.proofs.Tests.{if_both, if_at}
use Rattle.reference.proofs.Registers.{kept_byte, kept_number}
use Rattle.reference.proofs.Sound.{Sound, sound_with, Simulated, Answered, as_outcome, count_same}
use Rattle.reference.proofs.InSlot.{in_window}

-- a search asks only base registers below 6 whether they offer the width
in_list_same : (f g : ℕ → Bool) (space handle address : ℕ) → ((c : ℕ) → c < bases → f c ≡ g c) → (l : List Window)
    → in_list f space handle address l ≡ in_list g space handle address l
unfolding in_list
in_list_same f g space handle address e [] = refl
in_list_same f g space handle address e (w ∷ l) =
    if_both (λ (x y : Finding). x ≡ y) (holds space handle address w)
    (λ h. rw (e w.base (held space handle address w h).six)) (λ h. in_list_same f g space handle address e l)

module _ (b : Reference) (s : Sound b) where
  find_same : (w space handle address : ℕ)
      → (let p = parts_of b in find_in w p.header p.records p.windows p.cell_offsets (length p.cells) space handle address) ≡ find_for b w space handle address
  unfolding parts_of find
  find_same w space handle address =
      rw (
        count_same b s,
        offset_at_lem (exponent_of b.records) windows_max (omega arith),
        kept_of (length b.records) (exponent_of b.records) b.registers s.kept.few,
        in_list_same (λ c. offers w (widths (padded (joined b.records)) (handle - 1) c)) (λ c. offers w (entry_field b.records (handle - 1) c 2)) space
            handle address (λ c h. rw (kept_byte b.records s.kept.sized (handle - 1) (entries_at + entry_size * c + 2) (omega arith))) (windows_of b),
      )

  -- as a caller names it, by the same offset
  named_same : (w space handle : ℕ) (address : InEdition)
      → (let p = parts_of b in find_named w p.header p.records p.windows p.cell_offsets (length p.cells) space handle address)
      ≡ find_named_for b w space handle address
  unfolding parts_of
  named_same w space handle address =
      rw (kept_number b.records s.kept.sized (handle - 1) offset_at (omega arith), find_same w space handle _)

  -- a window that is found has its cells in the buffer
  target_found : (width : Width) (space handle : ℕ) (address : InEdition) (f : Finding) → find_named_for b (bytes width) space handle address ≡ f
      → (let p = parts_of b in
      cell_target_of (λ c. get_or p.cell_offsets (bases * (handle - 1) + c) 0) (byte_order p.records (handle - 1)) (length p.cells) (bytes width) f)
      ≡ cell_target_at b (bytes width) handle f
  unfolding parts_of cell_target_of cell_target_at
  target_found width space handle address (Ok f) e =
      let k = exponent_of b.records in
      let v = in_window b width space handle _ f (found_named_lem address _ f e).1 in
      let n = bases * (handle - 1) + f.base in
      let there : n < windows_max = omega (arith, v.low, v.high, v.six, s.kept.few) in
      let o = entry_field b.records (handle - 1) f.base 1 in
      rw (
        kept_byte b.records s.kept.sized (handle - 1) (entries_at + entry_size * f.base + 1) (omega (arith, v.six)),
        le-ltb (length b.cells) (get_or (offsets_of k) n 0 + cell_distance o (bytes width) f.distance + bytes width)
            (omega (arith, v.inside o, (cell_ranges k).apart n windows_max there (omega arith), (cell_ranges k).last, s.fits)),
        offset_at_lem k n (omega arith),
      )
  target_found width space handle address (Err r) e = refl

  target_same : (width : Width) (space handle : ℕ) (address : InEdition)
      → (let p = parts_of b in cell_target (bytes width) p.header p.records p.windows p.cell_offsets (length p.cells) space handle address)
      ≡ cell_target_for b (bytes width) space handle address
  target_same width space handle address = rw (named_same (bytes width) space handle address) (target_found width space handle address _ refl)

  pub same_read_data : (space : Space) (width : Width) (handle : ℕ) (address : InEdition) (own : List ℕ)
      → Simulated b (Data space width handle address Read) own
  unfolding step reference_step parts_of
  same_read_data space width handle address own = rw (target_same width _ handle address) (as_outcome b s)

  pub same_fast_read_data : (space : Space) (width : Width) (handle : ℕ) (address : InEdition) (own : List ℕ)
      → Simulated b (Data space width handle address FastRead) own
  unfolding step reference_step parts_of
  same_fast_read_data space width handle address own = rw (target_same width _ handle address) (as_outcome b s)

  pub same_write_data : (space : Space) (width : Width) (handle : ℕ) (address : InEdition) (value : ℕ) (own : List ℕ)
      → Simulated b (Data space width handle address (Write value)) own
  unfolding step reference_step parts_of
  same_write_data space width handle address value own =
      rw (target_same width _ handle address)
      (if_at (cell_target_for b (bytes width) (space_number space) handle address)
      (λ c e.
      rw e (as_outcome _ (sound_with s (simp length-sets (omega arith)) s.chained)))
      (λ r e. rw e (as_outcome b s)))

  pub same_bus_to_cpu : (handle : ℕ) (address : BusAddress) → Answered b (BusToCpu handle address)
  unfolding queried reference_queried parts_of
  same_bus_to_cpu handle address = rw (count_same b s, kept_number b.records s.kept.sized (handle - 1) offset_at (omega arith))

  pub same_cpu_to_bus : (handle : ℕ) (address : CpuAddress) → Answered b (CpuToBus handle address)
  unfolding queried reference_queried parts_of
  same_cpu_to_bus handle address = rw (count_same b s, kept_number b.records s.kept.sized (handle - 1) offset_at (omega arith))
