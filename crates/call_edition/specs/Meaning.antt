-- What an edition means, in other words and without the proofs: request E1, "the two must agree
-- after the ID halves are exchanged; where the offset is 0, data calls agree too".
use Rattle.std.specs.Prelude.{ℕ, ◌+◌, ◌*◌, ◌^◌, ◌<◌, false, ◌≡◌}
use Rattle.board.specs.Addresses.{bus, cpu_address}
use Rattle.call_edition.specs.Edition.{in_draft, in_later, is_bad_vendor, id_of, class_of, bus_of}

-- vendor and device ID with exchanged halves, or a class whose bits 31..24 are 0, name the same in
-- both; and vendor FFFFh alone is bad
pub record SearchedAlike : Type 0 where
  pub ids : (vendor device : ℕ) → vendor < 2 ^ 16 → device < 2 ^ 16
      → id_of (in_draft (vendor * 2 ^ 16 + device)) ≡ id_of (in_later (device * 2 ^ 16 + vendor))
  pub good : (vendor device : ℕ) → device < 2 ^ 16 → (vendor ≡ 0xFFFF → ⊥)
      → is_bad_vendor (in_draft (vendor * 2 ^ 16 + device)) ≡ false
  pub classes : (class : ℕ) → class < 2 ^ 24 → class_of (in_draft class) ≡ class_of (in_later class)

-- an address names the same in both where the offset is 0; in draft 1.9 the CPU address of a bus
-- address names that bus address, whatever the offset
pub record AddressedAlike : Type 0 where
  pub no_offset : (a : ℕ) → a < 2 ^ 32 → bus_of 0 (in_draft a) ≡ bus_of 0 (in_later a)
  pub by_cpu_address : (offset a : ℕ) → a < 2 ^ 32 → offset < 2 ^ 32
      → bus_of offset (in_draft (cpu_address offset (bus a)).0) ≡ bus a
