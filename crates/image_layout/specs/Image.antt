-- A board image: document 01, "Board image". Everything is found by its distance back from the
-- image's end.
use Rattle.std.specs.Prelude.{ℕ, ◌+◌, ◌-◌, ◌*◌, List, ◌++◌, length, take, drop, sum_by}
use Rattle.numbers.specs.Numbers.{byte_at, big, big_bytes}
use Rattle.board.specs.Layout.{record_size}
use Rattle.image_layout.specs.declared.layout.Range.{Range}
use Rattle.image_layout.specs.declared.trailer.Trailer.{Trailer}

-- bytes of a record as an image has it, and of the trailer
abbrev pub image_record : ℕ
image_record = 544

abbrev pub trailer_size : ℕ
trailer_size = 12

-- count records and the trailer
abbrev pub image_size : ℕ → ℕ
image_size count = image_record * count + trailer_size

-- the w bytes at a distance back from the end, highest first
abbrev pub back : ℕ → List ℕ → ℕ → ℕ
back w image distance = big w (byte_at image) (length image - distance)

-- the trailer: distance back to the first record (4), count (2), edition (2), sum (4)
abbrev pub distance_of : List ℕ → ℕ
distance_of image = back 4 image 12

abbrev pub count_of : List ℕ → ℕ
count_of image = back 2 image 8

abbrev pub edition_of : List ℕ → ℕ
edition_of image = back 2 image 6

abbrev pub sum_of : List ℕ → ℕ
sum_of image = back 4 image 4

abbrev pub trailer_of : List ℕ → Trailer
trailer_of image =
    record {
      distance = distance_of image;
      count = count_of image;
      edition = edition_of image;
      sum = sum_of image;
    }

-- where the records stand in an image of so many bytes
abbrev pub records_range : ℕ → ℕ → Range
records_range long count =
    record { from = long - image_size count; to = long - image_size count + image_record * count }

-- the bytes of the records, and those of the record at place i of them
abbrev pub records_of : List ℕ → List ℕ
records_of image =
    take (image_record * count_of image) (drop (length image - image_size (count_of image)) image)

abbrev pub record_at : List ℕ → ℕ → List ℕ
record_at records i = take image_record (drop (image_record * i) records)

-- sum of all bytes
unfoldable pub sum : List ℕ → ℕ
sum l = sum_by (λ b. b) l

-- the trailer that is written
abbrev pub trailer : ℕ → ℕ → List ℕ
trailer count sum =
    big_bytes 4 (image_size count)
    ++ (big_bytes 2 count ++ (big_bytes 2 1 ++ big_bytes 4 sum))

-- an image without notes, of the first count kept records
abbrev pub image_of : ℕ → List ℕ → List ℕ
image_of count records =
    take (record_size * count) records
    ++ trailer count (sum (take (record_size * count) records))
