-- What a caller names in a call edition: request E1. Edition 1 is draft 1.9 (document 000), 2 the
-- later text (document 001). Each definition turns what is named into what the later text has.
use Rattle.std.specs.Prelude.{ℕ, ◌+◌, ◌*◌, ◌/◌, ◌%◌, ◌^◌, Bool, cond, ◌&&◌, ◌||◌, eqb, Option, Some, None}
use Rattle.board.specs.Addresses.{bus, cpu, bus_address}
use Rattle.board.specs.declared.address.BusAddress.{BusAddress}
use Rattle.call_edition.specs.declared.edition.InEdition.{InEdition}

-- a number in an edition
abbrev pub in_edition : ℕ → ℕ → InEdition
in_edition number edition = record { number = number; edition = edition }

abbrev pub in_draft : ℕ → InEdition
in_draft number = in_edition number 1

abbrev pub in_later : ℕ → InEdition
in_later number = in_edition number 2

abbrev pub is_draft : InEdition → Bool
is_draft named = eqb named.edition 1

-- any other edition number is refused before all else
abbrev pub is_known : InEdition → Bool
is_known named = is_draft named || eqb named.edition 2

-- draft 1.9 has the vendor in bits 31..16, and vendor FFFFh does not match all: it is refused
abbrev pub is_bad_vendor : InEdition → Bool
is_bad_vendor id = is_draft id && eqb (id.number / 2 ^ 16) 0xFFFF

-- a search has the device ID in bits 15..0 and the vendor in 31..16; in the later text it is the
-- other way round
abbrev pub id_of : InEdition → ℕ
id_of id = cond (is_draft id) (id.number % 2 ^ 16 * 2 ^ 16 + id.number / 2 ^ 16) id.number

-- class bits 31..24 play no part
abbrev pub class_of : InEdition → ℕ
class_of class = cond (is_draft class) (class.number % 2 ^ 24) class.number

-- data addresses are physical CPU addresses, so the bus address is that less the offset, modulo
-- 2^32; in the later text they are bus addresses
abbrev pub bus_of : ℕ → InEdition → BusAddress
bus_of offset address =
    cond (is_draft address) (bus_address offset (cpu address.number)) (bus address.number)

-- what a data call names: that, where its edition is known
unfoldable pub named_bus : ℕ → InEdition → Option BusAddress
named_bus offset address = cond (is_known address) (Some (bus_of offset address)) None
