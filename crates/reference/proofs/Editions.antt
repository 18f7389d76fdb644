-- The two call editions.
use Prim.Native.Nat.{ℕ, ◌-◌}
use mathlib.Core.Bool.{false}
use mathlib.Core.List.{List}
use mathlib.Core.Path.{◌≡◌, ap}
use borrow.Author.Tests.{ne_eqb}
use Rattle.numbers.specs.declared.number.Width.{Width}
use Rattle.numbers.proofs.Numbers.{big_below}
use Rattle.board.specs.Addresses.{bus_number}
use Rattle.board.specs.Layout.{record_byte, offset_at, offset}
use Rattle.board.specs.Parts.{Parts}
use Rattle.board.specs.declared.space.Space.{Space}
use Rattle.call_edition.specs.Edition.{in_edition, in_draft, in_later, is_known, bus_of}
use Rattle.call_edition.specs.declared.edition.InEdition.{InEdition}
use Rattle.call_edition.proofs.Meaning.{searched_alike, addressed_alike}
use Rattle.search.specs.Search.{sought_at}
use Rattle.data_cells.specs.Cells.{cell_target_of}
use Rattle.call.specs.declared.call.Access.{Access}
use Rattle.call.specs.declared.call.Access.TheVariants.{Read, FastRead, Write}
use Rattle.call.specs.declared.call.Call.TheVariants.{Data}
use Rattle.reference.specs.State.{queried, outcome, step}
use Rattle.reference.specs.Editions.{EditionsAgree, ByCpuAddress, unknown_answer, UnknownRefused, Editions}

-- data calls that name the same bus address in known editions are the same call
bus_alike : (p : Parts) (space : Space) (width : Width) (handle draft later : ℕ) (access : Access) (own : List ℕ)
    → (bus_of (offset p.records (handle - 1)) (in_draft draft)).0 ≡ later
    → step p (Data space width handle (in_draft draft) access) own ≡ step p (Data space width handle (in_later later) access) own
unfolding step
bus_alike p space width handle draft later Read own e = rw e
bus_alike p space width handle draft later FastRead own e = rw e
bus_alike p space width handle draft later (Write value) own e = rw e

editions_agree : EditionsAgree
unfolding step queried
editions_agree =
    record {
      devices = λ p vendor device index own v d n. rw (searched_alike.good vendor device d n, searched_alike.ids vendor device v d);
      classes = λ p class index own h. rw (searched_alike.classes class h);
      data_calls = λ p space width handle address access own h z.
          bus_alike p space width handle address address access own (rw z (ap bus_number (addressed_alike.no_offset address h)));
    }

by_cpu_address_lem : ByCpuAddress
by_cpu_address_lem p space width handle address access own h =
    bus_alike p space width handle _ address access own
    (ap bus_number (addressed_alike.by_cpu_address (offset p.records (handle - 1)) address h (big_below 4 (record_byte p.records (handle - 1)) offset_at)))

-- a data call of an edition that is none
data_unknown : (p : Parts) (space : Space) (width : Width) (handle : ℕ) (address : InEdition) (access : Access) (own : List ℕ)
    → is_known address ≡ false → step p (Data space width handle address access) own ≡ outcome (unknown_answer width access) p own
unfolding step cell_target_of
data_unknown p space width handle address Read own k = rw k
data_unknown p space width handle address FastRead own k = rw k
data_unknown p space width handle address (Write value) own k = rw k

not_known : (number edition : ℕ) → (edition ≡ 1 → ⊥) → (edition ≡ 2 → ⊥) → is_known (in_edition number edition) ≡ false
not_known number edition one two = rw (ne_eqb edition 1 one, ne_eqb edition 2 two)

unknown_refused : UnknownRefused
unfolding step queried sought_at
unknown_refused edition one two =
    record {
      devices = λ p id index own. rw (not_known id edition one two);
      classes = λ p class index own. rw (not_known class edition one two);
      data_calls = λ p space width handle address access own.
          data_unknown p space width handle (in_edition address edition) access own (not_known address edition one two);
    }

pub editions : Editions
editions = record { agree = editions_agree; by_cpu_address = by_cpu_address_lem; unknown = unknown_refused }
