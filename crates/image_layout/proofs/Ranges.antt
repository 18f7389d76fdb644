-- A law of the range of the records in an image.
use Prim.Native.Nat.{ℕ, ◌+◌, ◌-◌, ◌*◌}
use native.Mathlib.Omega.{arith}
use mathlib.Core.Path.{◌≡◌}
use mathlib.Core.List.{List}
use lib.ListN.{length, take, drop}
use Rattle.image_layout.specs.Image.{image_record, image_size, count_of, records_range, records_of}
use Rattle.image_layout.specs.declared.layout.Range.{Range}

-- the part of a list in a range
abbrev pub part : Range → List ℕ → List ℕ
part r l = take (r.to - r.from) (drop r.from l)

-- the part of an image in the range of its records
pub range_part : (r : Range) (image : List ℕ) → r ≡ records_range (length image) (count_of image) → part r image ≡ records_of image
range_part r image e =
    let from = length image - image_size (count_of image) in
    let n : from + image_record * count_of image - from ≡ image_record * count_of image = omega arith in
    rw (e, n)
