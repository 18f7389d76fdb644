-- What a private step of the check finds; the contract of the check cites the definitions alone.
use Rattle.std.specs.Prelude.{ℕ, ◌<◌, Bool, Option, MatchOption, ◌≡◌}
use Rattle.image_refusals.specs.Refusals.{first_bad}

-- the place of the first of count records that does not pass, where there is one
abbrev pub FoundBad : (ℕ → Bool) → ℕ → Option ℕ → Type 0
FoundBad pass count found =
    MatchOption found (first_bad pass 0 count ≡ count)
    (λ place. (place < count) × (first_bad pass 0 count ≡ place))
