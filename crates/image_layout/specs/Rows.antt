-- Rows with literal numbers of document 01, section "Board image": the lengths of the parts, where
-- they stand, the sum of bytes, and the image that is written.
use Rattle.std.specs.Prelude.{ℕ, List, [], ◌∷◌, ◌++◌, map, ◌≡◌, replicate}
use Rattle.image_layout.specs.Image.{
  image_record,
  trailer_size,
  image_size,
  trailer_of,
  records_range,
  records_of,
  record_at,
  sum,
  image_of,
}
use Rattle.image_layout.specs.declared.layout.Range.{Range}
use Rattle.image_layout.specs.declared.trailer.Trailer.{Trailer}

-- the numbers of a trailer in the paper's order, and the two positions of a range
abbrev trailer_numbers : Trailer → List ℕ
trailer_numbers t = t.distance ∷ t.count ∷ t.edition ∷ t.sum ∷ []

abbrev positions : Range → List ℕ
positions r = r.from ∷ r.to ∷ []

-- twelve bytes, each another, and notes
abbrev twelve : List ℕ
twelve =
    0x01 ∷ 0x02 ∷ 0x03 ∷ 0x04
    ∷ 0x05 ∷ 0x06
    ∷ 0xF7 ∷ 0xF8
    ∷ 0xF9 ∷ 0xFA ∷ 0xFB ∷ 0xFC ∷ []

abbrev notes : List ℕ
notes = 0x20 ∷ 0x21 ∷ 0x22 ∷ []

-- two records whose bytes differ, and the trailers of the first alone and of both
abbrev first : List ℕ
first = 0x11 ∷ replicate 543 0xFF

abbrev second : List ℕ
second = replicate 544 9

abbrev trailer_of_first : List ℕ
trailer_of_first = 0 ∷ 0 ∷ 0x02 ∷ 0x2C ∷ 0 ∷ 1 ∷ 0 ∷ 1 ∷ 0 ∷ 0x02 ∷ 0x1C ∷ 0xF2 ∷ []

abbrev trailer_of_both : List ℕ
trailer_of_both = 0 ∷ 0 ∷ 0x04 ∷ 0x4C ∷ 0 ∷ 2 ∷ 0 ∷ 1 ∷ 0 ∷ 0x02 ∷ 0x30 ∷ 0x12 ∷ []

pub record ImageLayoutRows : Type 0 where
  -- records of 544 bytes and a trailer of 12; images of 1, 2 and 16 records
  pub sizes : image_record ∷ trailer_size ∷ map image_size (1 ∷ 2 ∷ 16 ∷ [])
      ≡ 544 ∷ 12 ∷ 556 ∷ 1100 ∷ 8716 ∷ []
  -- distance (4), count (2), edition (2), sum (4), big-endian, at the very end
  pub trailer_fields : map (λ image. trailer_numbers (trailer_of image))
      (twelve ∷ (notes ++ twelve) ∷ [])
      ≡ (0x01020304 ∷ 0x0506 ∷ 0xF7F8 ∷ 0xF9FAFBFC ∷ [])
      ∷ (0x01020304 ∷ 0x0506 ∷ 0xF7F8 ∷ 0xF9FAFBFC ∷ [])
      ∷ []
  -- notes are ignored: 1 and 2 records of an image with none and with 3 bytes of them
  pub record_positions : map positions
      (records_range 556 1 ∷ records_range 559 1 ∷ records_range 1100 2 ∷ records_range 1103 2 ∷ [])
      ≡ (0 ∷ 544 ∷ []) ∷ (3 ∷ 547 ∷ []) ∷ (0 ∷ 1088 ∷ []) ∷ (3 ∷ 1091 ∷ []) ∷ []
  pub records_found : records_of (notes ++ (first ++ trailer_of_first)) ∷ records_of
      (first ++ (second ++ trailer_of_both)) ∷ []
      ≡ first ∷ (first ++ second) ∷ []
  pub places : map (record_at (first ++ second)) (0 ∷ 1 ∷ []) ≡ first ∷ second ∷ []
  -- the sum of all record bytes
  pub sums : map sum ([] ∷ (1 ∷ 2 ∷ 4 ∷ []) ∷ replicate 544 0xFF ∷ []) ≡ 0 ∷ 7 ∷ 138720 ∷ []
  -- no notes, edition 1, and as many records as there are functions
  pub written : map (λ count. image_of count (first ++ second)) (1 ∷ 2 ∷ [])
      ≡ (first ++ trailer_of_first) ∷ (first ++ (second ++ trailer_of_both)) ∷ []
