-- For claim 2: the simulation of the resource call.
use Prim.Native.Nat.{ℕ, zero, suc, ◌+◌, ◌*◌, ◌-◌, ◌<◌, ◌≤◌}
use native.Mathlib.Omega.{arith}
use mathlib.Core.Bool.{Bool, true}
use mathlib.Core.List.{List, [], ◌∷◌}
use mathlib.Core.Path.{◌≡◌, refl, ap}
use lib.ListN.{length}
use Rattle.board.specs.Handles.{is_handle}
use Rattle.board.specs.Layout.{bases, entries_at, entry_size, offset_at, dma_offset_at}
use Rattle.window_list.proofs.KeptArray.{kept_of}
use Rattle.window.specs.Window.{is_window}
use Rattle.resource.specs.Resource.{windows_from, window_bases, Source, descriptor_of, described, ResourceOutcome, resource, source_of}
use Rattle.call.specs.declared.call.Call.TheVariants.{GetResource}
use Rattle.call.specs.Answers.{of_status}
use Rattle.reference.specs.State.{step}
use Rattle.reference.specs.Reference.{Reference, exponent_of, is_handle_of, source_for, reference_step}
use Rattle.reference.specs.Run.{parts_of}
use Rattle.reference.proofs.Tests.{if_test, if_alike}
use Rattle.reference.proofs.Registers.{flat_number, kept_byte, kept_number, kept_exponent}
use Rattle.reference.proofs.Sound.{Sound, Simulated, handle_same, handle_within}

-- base registers of a function
abbrev Bases : List ℕ → Type 0
Bases [] = Unit {0}
Bases (b ∷ l) = (b < bases) × Bases l

windows_bases : (k : ℕ → ℕ) (n b : ℕ) → b + n ≤ bases → Bases (windows_from k n b)
unfolding windows_from
windows_bases k zero b h = tt
windows_bases k (suc n) b h =
    let more = windows_bases k n (b + 1) (omega arith) in
    if_test Bases (is_window (k b)) (λ e. (omega arith, more)) (λ e. more)

windows_same : (k k' : ℕ → ℕ) → ((b : ℕ) → b < bases → k b ≡ k' b) → (n b : ℕ) → b + n ≤ bases → windows_from k n b ≡ windows_from k' n b
unfolding windows_from
windows_same k k' e zero b h = refl
windows_same k k' e (suc n) b h = rw (e b (omega arith), windows_same k k' e n (b + 1) (omega arith))

-- sources that give the same descriptors: they agree on the base registers that a function has
record Agree (s t : Source) : Type 0 where
  handle : s.handle ≡ t.handle
  windows : s.windows ≡ t.windows
  exponent : (b : ℕ) → b < bases → s.exponent b ≡ t.exponent b
  order : (b : ℕ) → b < bases → s.order b ≡ t.order b
  widths : (b : ℕ) → b < bases → s.widths b ≡ t.widths b
  register : (b : ℕ) → b < bases → s.register b ≡ t.register b
  offset : s.offset ≡ t.offset
  dma_offset : s.dma_offset ≡ t.dma_offset

module _ (s t : Source) (a : Agree s t) where
  descriptor_same : (last : Bool) (b : ℕ) → b < bases → descriptor_of s last b ≡ descriptor_of t last b
  descriptor_same last b h =
      rw (a.register b h, a.widths b h, a.order b h, a.windows, a.handle, a.exponent b h, a.offset, a.dma_offset)

  described_same : (l : List ℕ) → Bases l → described s l ≡ described t l
  unfolding described
  described_same [] h = refl
  described_same (b ∷ l) h = rw (descriptor_same _ b h.0, described_same l h.1)

  bases_same : window_bases s.exponent ≡ window_bases t.exponent
  bases_same = windows_same s.exponent t.exponent a.exponent bases 0 (omega arith)

  resource_same : (out : List ℕ) → resource true s out ≡ resource true t out
  unfolding resource
  resource_same out =
      rw (described_same (window_bases s.exponent) (windows_bases s.exponent bases 0 (omega arith)), bases_same)

module _ (b : Reference) (s : Sound b) where
  -- a good handle's source, from the lent parts and from the reference machine
  source_same : (handle : ℕ) → is_handle_of b handle ≡ true
      → (let p = parts_of b in Agree (source_of p.records p.registers p.windows handle) (source_for b handle))
  unfolding parts_of
  source_same handle g =
      let i = handle - 1 in
      let k = handle_within b handle g in
      let rs = b.records in
      record {
        handle = refl;
        windows = kept_of (length rs) (exponent_of rs) b.registers s.kept.few;
        exponent = λ c h. kept_exponent rs s.kept.sized i c h;
        order = λ c h. kept_byte rs s.kept.sized i (entries_at + entry_size * c + 1) (omega arith);
        widths = λ c h. kept_byte rs s.kept.sized i (entries_at + entry_size * c + 2) (omega arith);
        register = λ c h. flat_number b.registers 4 i (0x10 + 4 * c) (omega (arith, s.kept.few, k.0, k.1)) (omega arith);
        offset = kept_number rs s.kept.sized i offset_at (omega arith);
        dma_offset = kept_number rs s.kept.sized i dma_offset_at (omega arith);
      }

  abbrev kept : ℕ → Source
  kept handle = let p = parts_of b in source_of p.records p.registers p.windows handle

  gives : (handle : ℕ) (own : List ℕ) → resource (is_handle (parts_of b).header handle) (kept handle) own ≡ resource (is_handle_of b handle) (source_for b handle) own
  unfolding resource
  gives handle own =
      if_alike (λ (x y : ResourceOutcome). x ≡ y) (handle_same b s handle) (λ g. resource_same (kept handle) (source_for b handle) (source_same handle g) own) (λ g. refl)

  pub same_resource : (handle : ℕ) (own : List ℕ) → Simulated b (GetResource handle) own
  unfolding step reference_step
  same_resource handle own =
      let e = gives handle own in
      record {
        answer = ap (λ (g : ResourceOutcome). of_status g.status) e;
        parts = refl;
        own = ap (λ (g : ResourceOutcome). g.out) e;
        sound = s;
      }
