-- What a data call named, from what came of it: an address is named in an edition that is known.
use Prim.Native.Nat.{ℕ}
use mathlib.Core.Bool.{Bool, true, false, cond, true≢false}
use mathlib.Core.Path.{◌≡◌, refl}
use Rattle.std.specs.Prelude.{Some, None}
use Rattle.board.specs.declared.address.BusAddress.{BusAddress}
use Rattle.call_edition.specs.Edition.{is_known, bus_of, named_bus}
use Rattle.call_edition.specs.declared.edition.InEdition.{InEdition}

pub named_known : (offset : ℕ) (address : InEdition) (b : BusAddress) → named_bus offset address ≡ Some b
    → (is_known address ≡ true) × (bus_of offset address ≡ b)
unfolding named_bus
named_known offset address b = by (is_known address) refl
  where
    by : (k : Bool) → is_known address ≡ k
        → cond k (Some (bus_of offset address)) None ≡ Some b
        → (is_known address ≡ true) × (bus_of offset address ≡ b)
    by true k e = (k, cc)
    by false k e = absurd (true≢false cc)

pub named_unknown : (offset : ℕ) (address : InEdition) → named_bus offset address ≡ None
    → is_known address ≡ false
unfolding named_bus
named_unknown offset address = by (is_known address) refl
  where
    by : (k : Bool) → is_known address ≡ k
        → cond k (Some (bus_of offset address)) None ≡ None
        → is_known address ≡ false
    by true k e = absurd (true≢false cc)
    by false k e = k
