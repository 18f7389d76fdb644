-- The windows of a kept list from position j on: none at its end, else one and those after it.
use Prim.Native.Nat.{ℕ, ◌+◌, ◌≤◌, ◌<◌}
use native.Mathlib.Numerals.{add-one}
use mathlib.Core.Bool.{true, false}
use mathlib.Core.List.{List, [], ◌∷◌}
use mathlib.Core.Path.{◌≡◌}
use lib.ListN.{length, get_or, drop, drop_of_length-le}
use lib.Seq.{drop-cons}
use Rattle.window.specs.Kept.{unpack, is_end, unpacked}

module _ (l : List ℕ) (j : ℕ) where
  pub unpacked_none : j < length l → is_end (get_or l j 0) ≡ true → unpacked (drop j l) ≡ []
  unfolding unpacked
  unpacked_none h z = rw (drop-cons l j 0 h, z)

  pub unpacked_one : j < length l → is_end (get_or l j 0) ≡ false → unpacked (drop j l) ≡ unpack (get_or l j 0) ∷ unpacked (drop (j + 1) l)
  unfolding unpacked
  unpacked_one h n = rw (drop-cons l j 0 h, n, add-one)

  pub unpacked_end : length l ≤ j → unpacked (drop j l) ≡ []
  unfolding unpacked
  unpacked_end h = rw (drop_of_length-le l h)
