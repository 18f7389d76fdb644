-- Rows with literal numbers of document 01, section "Load refusals": each number by itself at its
-- boundary, each two neighbours where both apply, and the place.
use Rattle.std.specs.Prelude.{ℕ, true, false, not, List, [], ◌∷◌, map, ◌≡◌, ltb, eqb, ℤ, pos}
use Rattle.image_refusals.specs.Refusals.{
  Facts,
  Verdict,
  image_max,
  accepted,
  refused,
  bad_record,
  is_accepted,
  verdict_number,
  verdict_place,
  first_bad,
  first_refusal,
}
use Rattle.image_refusals.specs.declared.verdict.ImageRefusal.TheVariants.{
  Length,
  Edition,
  Count,
  Distance,
  Sum,
  Windows,
  Cells,
}

-- what an image says of itself, in the order of the refusals
abbrev image : ℕ → ℕ → ℕ → ℕ → ℕ → ℕ → ℕ → ℕ → Facts
image length edition count distance said sum bad total =
    record {
      length = length;
      edition = edition;
      count = count;
      distance = distance;
      said = said;
      sum = sum;
      bad = bad;
      total = total;
    }

-- what is handed back of a verdict: its number and its place
pub record Handed : Type 0 where
  pub number : ℤ
  pub place : ℕ

abbrev pub handed : Verdict → Handed
handed v = record { number = verdict_number v; place = verdict_place v }

-- a number with a place, and with none
abbrev pub at : ℕ → ℕ → Handed
at number place = record { number = pos number; place = place }

abbrev verdict : ℕ → Handed
verdict number = at number 0

-- the first refusal, with so many cells lent, and with 16
abbrev checked : Facts → ℕ → Handed
checked f room = handed (first_refusal f room)

abbrev checked16 : Facts → Handed
checked16 f = checked f 16

-- a verdict of each kind, in the order of the numbers
abbrev every_verdict : List Verdict
every_verdict =
    accepted ∷ refused Length ∷ refused Edition ∷ refused Count ∷ refused Distance
    ∷ refused Sum ∷ bad_record 3 ∷ refused Windows ∷ refused Cells ∷ []

pub record ImageRefusalsRows : Type 0 where
  -- 1 shorter than 12 bytes; so short an image has no room for its record
  pub shorter : map (λ n. checked16 (image n 1 1 556 7 7 1 16)) (11 ∷ 12 ∷ [])
      ≡ verdict 1 ∷ verdict 4 ∷ []
  -- or longer than this; that it is so of every image, `image_check` says
  pub longer : image_max ≡ 65536
  -- 2 edition not 1
  pub editions : map (λ n. checked16 (image 556 n 1 556 7 7 1 16)) (0 ∷ 1 ∷ 2 ∷ 0x100 ∷ [])
      ≡ verdict 2 ∷ verdict 0 ∷ verdict 2 ∷ verdict 2 ∷ []
  -- 3 count 0 or above 16
  pub counts : map checked16
      (image 9260 1 0 12 7 7 0 16 ∷ image 9260 1 1 556 7 7 1 16
      ∷ image 9260 1 16 8716 7 7 16 16 ∷ image 9260 1 17 9260 7 7 17 16 ∷ [])
      ≡ verdict 3 ∷ verdict 0 ∷ verdict 0 ∷ verdict 3 ∷ []
  -- 4 distance is not 544 x count + 12
  pub distances : map (λ n. checked16 (image 1200 1 2 n 7 7 2 16))
      (556 ∷ 1099 ∷ 1100 ∷ 1101 ∷ [])
      ≡ verdict 4 ∷ verdict 4 ∷ verdict 0 ∷ verdict 4 ∷ []
  -- or exceeds the image
  pub exceeding : map (λ n. checked16 (image n 1 2 1100 7 7 2 16)) (1099 ∷ 1100 ∷ 1101 ∷ [])
      ≡ verdict 4 ∷ verdict 0 ∷ verdict 0 ∷ []
  -- 5 wrong sum
  pub sums : map (λ n. checked16 (image 556 1 1 556 7 n 1 16)) (6 ∷ 7 ∷ 8 ∷ [])
      ≡ verdict 5 ∷ verdict 0 ∷ verdict 5 ∷ []
  -- 6 a record breaks a rule: its place is returned; none of 2 and of 16 does at their count
  pub bad_records : map (λ n. checked16 (image 1100 1 2 1100 7 7 n 16)) (0 ∷ 1 ∷ 2 ∷ [])
      ≡ at 6 0 ∷ at 6 1 ∷ verdict 0 ∷ []
  pub last_bad_record : map (λ n. checked16 (image 8716 1 16 8716 7 7 n 16)) (15 ∷ 16 ∷ [])
      ≡ at 6 15 ∷ verdict 0 ∷ []
  -- 7 windows above 65,536 in total, with cells enough
  pub totals : map (λ n. checked (image 556 1 1 556 7 7 1 n) 70000)
      (0 ∷ 65535 ∷ 65536 ∷ 65537 ∷ [])
      ≡ verdict 0 ∷ verdict 0 ∷ verdict 0 ∷ verdict 7 ∷ []
  -- 8 lent cells too short
  pub rooms : map (checked (image 556 1 1 556 7 7 1 16)) (0 ∷ 15 ∷ 16 ∷ 17 ∷ [])
      ≡ verdict 8 ∷ verdict 8 ∷ verdict 0 ∷ verdict 0 ∷ []
  -- the first that applies: 1 and 2, 2 and 3, 3 and 4, 4 and 5, 5 and 6, 6 and 7
  pub neighbours : map checked16
      (image 11 2 1 556 7 7 1 16 ∷ image 9260 2 17 9260 7 7 17 16 ∷ image 9260 2 0 12 7 7 0 16
      ∷ image 9260 1 17 9261 7 7 17 16 ∷ image 9260 1 0 13 7 7 0 16
      ∷ image 1200 1 2 1101 7 8 2 16 ∷ image 1099 1 2 1100 7 8 2 16
      ∷ image 1100 1 2 1100 7 8 1 16 ∷ image 1100 1 2 1100 7 7 1 65537 ∷ [])
      ≡ verdict 1 ∷ verdict 2 ∷ verdict 2
      ∷ verdict 3 ∷ verdict 3
      ∷ verdict 4 ∷ verdict 4
      ∷ verdict 5 ∷ at 6 1 ∷ []
  -- 7 and 8
  pub seven_before_eight : map (checked (image 556 1 1 556 7 7 1 65537)) (0 ∷ 65536 ∷ [])
      ≡ verdict 7 ∷ verdict 7 ∷ []
  -- with other numbers the place is 0, though a record at place 1 breaks a rule
  pub no_place : map checked16
      (image 11 1 2 1100 7 7 1 16 ∷ image 1100 2 2 1100 7 7 1 16 ∷ image 9260 1 17 9260 7 7 1 16
      ∷ image 1100 1 2 1099 7 7 1 16 ∷ image 1100 1 2 1100 7 6 1 16 ∷ [])
      ≡ verdict 1 ∷ verdict 2 ∷ verdict 3 ∷ verdict 4 ∷ verdict 5 ∷ []
  -- the first such place, from 0: of 3 records none, all, 1 alone, 1 and 2, 2 alone break a rule
  pub first_places : map (λ pass. first_bad pass 0 3)
      ((λ i. true) ∷ (λ i. false) ∷ (λ i. not (eqb i 1)) ∷ (λ i. ltb i 1) ∷ (λ i. ltb i 2) ∷ [])
      ≡ 3 ∷ 0 ∷ 1 ∷ 1 ∷ 2 ∷ []
  -- the number of each, 0 where nothing is refused, and the place with it
  pub numbers : map handed every_verdict
      ≡ verdict 0 ∷ verdict 1 ∷ verdict 2 ∷ verdict 3 ∷ verdict 4 ∷ verdict 5 ∷ at 6 3
      ∷ verdict 7 ∷ verdict 8 ∷ []
  -- only 0 is no refusal
  pub acceptances : map is_accepted every_verdict
      ≡ true ∷ false ∷ false ∷ false ∷ false ∷ false ∷ false ∷ false ∷ false ∷ []
