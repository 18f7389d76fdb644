-- Rows with literal numbers of document 01, section "Load refusals": the upper length as a law over
-- every image, and the verdict on a few images of one and two records, given byte by byte.
use Rattle.std.specs.Prelude.{ℕ, ◌<◌, ◌≤◌, List, [], ◌∷◌, ◌++◌, map, ◌≡◌, length, drop, replicate}
use Rattle.numbers.specs.Tables.{filled_up}
use Rattle.image_refusals.specs.Refusals.{refused, first_refusal}
use Rattle.image_refusals.specs.declared.verdict.ImageRefusal.TheVariants.{Length}
use Rattle.image_refusals.specs.Rows.{Handed, handed, at}
use Rattle.image_check.specs.Check.{facts_of, checked}

-- what is handed back of the check of an image: a number and a place
abbrev pub verdict : ℕ → ℕ → Handed
verdict number place = at number place

abbrev checked_as : List ℕ → ℕ → Handed
checked_as image room = handed (checked image room)

-- a record of these bytes from 10h on, these from mask 10h on, and these entries, else zeros
abbrev record_of : List ℕ → List ℕ → List ℕ → List ℕ
record_of registers masks entries =
    filled_up 544 (filled_up 512 (filled_up 272 (replicate 16 0 ++ registers) ++ masks) ++ entries)

-- I/O of k 2, the same with widths 0, and memory of k 16 with that I/O
abbrev pub port_record : List ℕ
port_record = record_of (1 ∷ []) (0xFC ∷ 0xFF ∷ 0xFF ∷ 0xFF ∷ []) (2 ∷ 0 ∷ 1 ∷ 0 ∷ [])

abbrev no_width : List ℕ
no_width = record_of (1 ∷ []) (0xFC ∷ 0xFF ∷ 0xFF ∷ 0xFF ∷ []) (2 ∷ 0 ∷ 0 ∷ 0 ∷ [])

abbrev large : List ℕ
large =
    record_of (0 ∷ 0 ∷ 0 ∷ 0 ∷ 1 ∷ [])
    (0 ∷ 0 ∷ 0xFF ∷ 0xFF ∷ 0xFC ∷ 0xFF ∷ 0xFF ∷ 0xFF ∷ [])
    (16 ∷ 0 ∷ 1 ∷ 0 ∷ 2 ∷ 0 ∷ 1 ∷ 0 ∷ [])

-- edition 1 and the numbers of 1 and of 2 records, with two bytes of a sum
abbrev pub one_record : ℕ → ℕ → List ℕ
one_record high low = 0 ∷ 0 ∷ 0x02 ∷ 0x2C ∷ 0 ∷ 1 ∷ 0 ∷ 1 ∷ 0 ∷ 0 ∷ high ∷ low ∷ []

abbrev two_records : ℕ → ℕ → List ℕ
two_records high low = 0 ∷ 0 ∷ 0x04 ∷ 0x4C ∷ 0 ∷ 2 ∷ 0 ∷ 1 ∷ 0 ∷ 0 ∷ high ∷ low ∷ []

-- 192 registers and 192 masks FFh, which no rule names; the sum is 17E80h
abbrev heavy : List ℕ
heavy =
    replicate 64 0 ++ (replicate 192 0xFF
    ++ (replicate 64 0 ++ (replicate 192 0xFF ++ replicate 32 0)))

abbrev heavy_trailer : ℕ → List ℕ
heavy_trailer byte = 0 ∷ 0 ∷ 0x02 ∷ 0x2C ∷ 0 ∷ 1 ∷ 0 ∷ 1 ∷ 0 ∷ byte ∷ 0x7E ∷ 0x80 ∷ []

pub record ImageCheckRows : Type 0 where
  -- 1 longer than 65,536 bytes, whatever else the image says; up to there the table decides
  pub longer : (image : List ℕ) (room : ℕ) → 65536 < length image
      → checked image room ≡ refused Length
  pub longer_number : (image : List ℕ) (room : ℕ) → 65536 < length image
      → checked_as image room ≡ verdict 1 0
  pub up_to : (image : List ℕ) (room : ℕ) → length image ≤ 65536
      → checked image room ≡ first_refusal (facts_of image) room
  -- 1 and 4 of too few bytes
  pub short : checked_as (replicate 11 0) 4
      ∷ checked_as (drop 1 (port_record ++ one_record 0x03 0xFD)) 4 ∷ []
      ≡ verdict 1 0 ∷ verdict 4 0 ∷ []
  -- 2 editions 2 and 0101h; 3 counts 0, 17 and 0101h; 4 distances 22Dh and 0100022Ch
  pub forms : map (λ t. checked_as (port_record ++ (t ++ (0 ∷ 0 ∷ 0x03 ∷ 0xFD ∷ []))) 4)
      ((0 ∷ 0 ∷ 0x02 ∷ 0x2C ∷ 0 ∷ 1 ∷ 0 ∷ 2 ∷ [])
      ∷ (0 ∷ 0 ∷ 0x02 ∷ 0x2C ∷ 0 ∷ 1 ∷ 1 ∷ 1 ∷ [])
      ∷ (0 ∷ 0 ∷ 0x00 ∷ 0x0C ∷ 0 ∷ 0 ∷ 0 ∷ 1 ∷ [])
      ∷ (0 ∷ 0 ∷ 0x24 ∷ 0x2C ∷ 0 ∷ 17 ∷ 0 ∷ 1 ∷ [])
      ∷ (0 ∷ 0 ∷ 0x02 ∷ 0x2C ∷ 1 ∷ 1 ∷ 0 ∷ 1 ∷ [])
      ∷ (0 ∷ 0 ∷ 0x02 ∷ 0x2D ∷ 0 ∷ 1 ∷ 0 ∷ 1 ∷ [])
      ∷ (1 ∷ 0 ∷ 0x02 ∷ 0x2C ∷ 0 ∷ 1 ∷ 0 ∷ 1 ∷ []) ∷ [])
      ≡ verdict 2 0 ∷ verdict 2 0 ∷ verdict 3 0 ∷ verdict 3 0 ∷ verdict 3 0 ∷ verdict 4 0
      ∷ verdict 4 0 ∷ []
  -- sum 03FDh, 4 cells: accepted, also after notes; 5 with a sum that is one off; 8
  pub fine : checked_as (port_record ++ one_record 0x03 0xFD) 4
      ∷ checked_as (7 ∷ 7 ∷ port_record ++ one_record 0x03 0xFD) 4
      ∷ checked_as (port_record ++ one_record 0x03 0xFC) 4
      ∷ checked_as (port_record ++ one_record 0x03 0xFD) 3 ∷ []
      ≡ verdict 0 0 ∷ verdict 0 0 ∷ verdict 5 0 ∷ verdict 8 0 ∷ []
  -- the sum has four bytes
  pub heavy_sum : map (λ byte. checked_as (heavy ++ heavy_trailer byte) 0) (1 ∷ 0 ∷ [])
      ≡ verdict 0 0 ∷ verdict 5 0 ∷ []
  -- 6, the first record that breaks a rule and the second; 7, 65,540 cells
  pub bad : checked_as (no_width ++ one_record 0x03 0xFC) 4
      ∷ checked_as (port_record ++ (no_width ++ two_records 0x07 0xF9)) 4
      ∷ checked_as (large ++ one_record 0x06 0x0C) 70000 ∷ []
      ≡ verdict 6 0 ∷ verdict 6 1 ∷ verdict 7 0 ∷ []
