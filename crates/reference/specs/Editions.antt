-- The two call editions, in request E1's words and of the calls themselves, in every state, also
-- one that no run reaches: answers, lent parts and the call's own buffer, refusals too. Statements
-- alone, proved in proofs/Editions.antt.
use Rattle.std.specs.Prelude.{ℕ, ◌+◌, ◌-◌, ◌*◌, ◌^◌, ◌<◌, true, List, ◌≡◌, pos}
use Rattle.numbers.specs.Numbers.{bytes}
use Rattle.numbers.specs.declared.number.Width.{Width}
use Rattle.board.specs.Addresses.{bus, cpu_address}
use Rattle.board.specs.Layout.{offset}
use Rattle.board.specs.Parts.{Parts}
use Rattle.board.specs.Statuses.{func_not_supported}
use Rattle.board.specs.declared.space.Space.{Space}
use Rattle.call_edition.specs.Edition.{in_edition, in_draft, in_later}
use Rattle.call.specs.declared.answer.Answer.{Answer}
use Rattle.call.specs.declared.call.Access.{Access}
use Rattle.call.specs.declared.call.Access.TheVariants.{Read, FastRead, Write}
use Rattle.call.specs.declared.call.Call.TheVariants.{Data, Ask}
use Rattle.call.specs.declared.call.Query.TheVariants.{FindPciDevice, FindPciClasscode}
use Rattle.call.specs.Answers.{one, of_status}
use Rattle.reference.specs.State.{outcome, step}

-- where a search has neither vendor FFFFh nor class bits 31..24, the two agree after the ID halves
-- are exchanged; where the function's offset is 0, data calls agree too
pub record EditionsAgree : Type 0 where
  pub devices : (p : Parts) (vendor device index : ℕ) (own : List ℕ)
      → vendor < 2 ^ 16 → device < 2 ^ 16 → (vendor ≡ 0xFFFF → ⊥)
      → step p (Ask (FindPciDevice (in_draft (vendor * 2 ^ 16 + device)) index)) own
      ≡ step p (Ask (FindPciDevice (in_later (device * 2 ^ 16 + vendor)) index)) own
  pub classes : (p : Parts) (class index : ℕ) (own : List ℕ) → class < 2 ^ 24
      → step p (Ask (FindPciClasscode (in_draft class) index)) own
      ≡ step p (Ask (FindPciClasscode (in_later class) index)) own
  pub data_calls : (p : Parts) (space : Space) (width : Width) (handle address : ℕ) (access : Access)
      (own : List ℕ) → address < 2 ^ 32 → offset p.records (handle - 1) ≡ 0
      → step p (Data space width handle (in_draft address) access) own
      ≡ step p (Data space width handle (in_later address) access) own

-- data addresses of draft 1.9 are physical CPU addresses: whatever the offset, a data call at the
-- CPU address of a bus address is the later text's at that bus address
abbrev pub ByCpuAddress : Type 0
ByCpuAddress =
    (p : Parts) (space : Space) (width : Width) (handle address : ℕ) (access : Access)
    (own : List ℕ) → address < 2 ^ 32
    → (let on_cpu = cpu_address (offset p.records (handle - 1)) (bus address) in
    step p (Data space width handle (in_draft on_cpu.0) access) own
    ≡ step p (Data space width handle (in_later address) access) own)

-- what an unknown edition gives: -2, or all ones of the width and the fault flag
abbrev pub unknown_answer : Width → Access → Answer
unknown_answer width Read = of_status func_not_supported
unknown_answer width FastRead =
    record { number = pos 0; refused = true; values = one (256 ^ bytes width - 1) }
unknown_answer width (Write value) = of_status func_not_supported

-- any other edition number is refused before all else: whatever the handle, the address and the
-- cells, and on every board
pub record UnknownEditions (edition : ℕ) : Type 0 where
  pub devices : (p : Parts) (id index : ℕ) (own : List ℕ)
      → step p (Ask (FindPciDevice (in_edition id edition) index)) own
      ≡ outcome (of_status func_not_supported) p own
  pub classes : (p : Parts) (class index : ℕ) (own : List ℕ)
      → step p (Ask (FindPciClasscode (in_edition class edition) index)) own
      ≡ outcome (of_status func_not_supported) p own
  pub data_calls : (p : Parts) (space : Space) (width : Width) (handle address : ℕ) (access : Access)
      (own : List ℕ)
      → step p (Data space width handle (in_edition address edition) access) own
      ≡ outcome (unknown_answer width access) p own

abbrev pub UnknownRefused : Type 0
UnknownRefused =
    (edition : ℕ) → (edition ≡ 1 → ⊥) → (edition ≡ 2 → ⊥) → UnknownEditions edition

-- THE TWO EDITIONS
pub record Editions : Type 0 where
  pub agree : EditionsAgree
  pub by_cpu_address : ByCpuAddress
  pub unknown : UnknownRefused
