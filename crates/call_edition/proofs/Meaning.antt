-- What the two editions name alike.
use Prim.Native.Nat.{ℕ, ◌+◌, ◌-◌, ◌*◌, ◌/◌, ◌%◌, ◌^◌, ◌<◌}
use native.Mathlib.Omega.{arith}
use mathlib.Core.Path.{◌≡◌}
use borrow.Author.Tests.{ne_eqb}
use Rattle.board.specs.Addresses.{bus}
use Rattle.board.proofs.Addresses.{there_and_back}
use Rattle.call_edition.specs.Meaning.{SearchedAlike, AddressedAlike}

-- the halves of an ID
high : (a b : ℕ) → b < 2 ^ 16 → (a * 2 ^ 16 + b) / 2 ^ 16 ≡ a
high a b h = omega arith

low : (a b : ℕ) → b < 2 ^ 16 → (a * 2 ^ 16 + b) % 2 ^ 16 ≡ b
low a b h = omega arith

-- THEOREM: what is searched for is the same after the halves are exchanged
pub searched_alike : SearchedAlike
searched_alike =
    record {
      ids = λ vendor device v d. rw (high vendor device d, low vendor device d);
      good = λ vendor device d n. rw (high vendor device d, ne_eqb vendor 0xFFFF n);
      classes = λ class h. omega arith;
    }

-- THEOREM: the bus address is the same where the offset is 0, and comes back from its CPU address
pub addressed_alike : AddressedAlike
addressed_alike =
    record {
      no_offset = λ a h. let e : (a + (2 ^ 32 - 0)) % 2 ^ 32 ≡ a = omega arith in rw e;
      by_cpu_address = λ offset a h k. there_and_back offset (bus a) h (omega arith);
    }
