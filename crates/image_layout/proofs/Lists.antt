-- A law of the sum of bytes.
use Prim.Native.Nat.{ℕ, ◌*◌, ◌≤◌}
use mathlib.Core.Path.{◌≡◌, ap}
use mathlib.Core.List.{List}
use lib.ListN.{length, take}
use lib.Seq.{take_all}
use Rattle.board.specs.Layout.{functions_max}
use Rattle.image_layout.specs.Image.{image_record, sum}

-- of no more bytes than an image's records have, all are added
pub sum_whole : (l : List ℕ) → length l ≤ functions_max * image_record → sum (take (functions_max * image_record) l) ≡ sum l
sum_whole l h = ap sum (take_all (functions_max * image_record) l h)
