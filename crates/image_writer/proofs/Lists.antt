-- A law of lists: how long a trailer is.
use Prim.Native.Nat.{ℕ}
use mathlib.Core.Path.{◌≡◌, refl}
use lib.ListN.{length}
use Rattle.numbers.specs.Tables.{table_from}
use Rattle.image_layout.specs.Image.{trailer_size, trailer}

pub trailer_length : (count sum : ℕ) → length (trailer count sum) ≡ trailer_size
unfolding table_from
trailer_length count sum = refl
