-- What is known of an accepted image, and that nothing else is asked of it.
use Prim.Native.Nat.{ℕ, zero, suc, ◌+◌, ◌*◌, ◌-◌, ◌<◌, ◌≤◌}
use native.Mathlib.Omega.{arith}
use mathlib.Core.Bool.{Bool, true, false, not, cond, ◌||◌}
use mathlib.Core.Path.{◌≡◌, refl, ◌∙◌}
use mathlib.Core.List.{List}
use Rattle.std.specs.Prelude.{Ok, Err}
use lib.Dec.{ltb, eqb}
use lib.ListN.{length, drop, length-drop}
use lib.Seq.{length-take-le}
use borrow.Author.Tests.{eq-eqb, ne_eqb, le-ltb, ltb-false, eqb-true, eqb-false, not-false}
use Rattle.board.specs.Layout.{functions_max}
use Rattle.numbers.proofs.Tests.{either_false}
use Rattle.image_layout.specs.Image.{image_record, trailer_size, image_size, count_of, records_of, record_at}
use Rattle.image_record.specs.Record.{record_ok}
use Rattle.image_refusals.specs.Refusals.{Facts, Verdict, image_max, cells_max, accepted, refused, bad_record, is_accepted, first_bad, first_refusal}
use Rattle.image_refusals.specs.Steps.{form_refusal, records_verdict, cells_verdict}
use Rattle.image_check.specs.Check.{facts_of, checked}
use Rattle.image_refusals.specs.declared.verdict.ImageRefusal.TheVariants.{Length, Edition, Count, Distance, Sum, Windows, Cells}

-- the facts of an image that no refusal applies to
pub record Fine (f : Facts) (room : ℕ) : Type 0 where
  pub long : trailer_size ≤ f.length
  pub edition : f.edition ≡ 1
  pub some : 0 < f.count
  pub few : f.count ≤ functions_max
  pub distance : f.distance ≡ image_size f.count
  pub whole : image_size f.count ≤ f.length
  pub sum : f.sum ≡ f.said
  pub rules : f.count ≤ f.bad
  pub total : f.total ≤ cells_max
  pub fits : f.total ≤ room

passed : (t : Bool) (v w : Verdict) → is_accepted v ≡ false → is_accepted (cond t v w) ≡ true → (t ≡ false) × (is_accepted w ≡ true)
passed true v w h e = cc
passed false v w h e = (refl, e)

-- a test that is not met: the numbers are equal
equal : (a b : ℕ) → not (eqb a b) ≡ false → a ≡ b
equal a b e = eqb-true a b (not-false (eqb a b) e)

pub fine : (f : Facts) (room : ℕ) → is_accepted (first_refusal f room) ≡ true → Fine f room
unfolding first_refusal
fine f room e =
    let a = passed (ltb f.length trailer_size) (refused Length) _ refl e in
    let b = passed (not (eqb f.edition 1)) (refused Edition) _ refl a.1 in
    let c = passed (eqb f.count 0 || ltb functions_max f.count) (refused Count) _ refl b.1 in
    let d = passed (not (eqb f.distance (image_size f.count)) || ltb f.length (image_size f.count)) (refused Distance) _ refl c.1 in
    let g = passed (not (eqb f.sum f.said)) (refused Sum) _ refl d.1 in
    let h = passed (ltb f.bad f.count) (bad_record f.bad) _ refl g.1 in
    let i = passed (ltb cells_max f.total) (refused Windows) _ refl h.1 in
    let j = passed (ltb room f.total) (refused Cells) accepted refl i.1 in
    let p = either_false _ _ c.0 in
    let q = either_false _ _ d.0 in
    let n = eqb-false f.count 0 p.0 in
    record {
      long = ltb-false f.length trailer_size a.0;
      edition = equal f.edition 1 b.0;
      some = omega arith;
      few = ltb-false functions_max f.count p.1;
      distance = equal f.distance (image_size f.count) q.0;
      whole = ltb-false f.length (image_size f.count) q.1;
      sum = equal f.sum f.said g.0;
      rules = ltb-false f.bad f.count h.0;
      total = ltb-false cells_max f.total i.0;
      fits = ltb-false room f.total j.0;
    }

-- where no place is found bad, each has passed: the first, and so all
first_passed : (t : Bool) (i n x : ℕ) → i + suc n ≤ cond t x i → (t ≡ true) × (i + 1 + n ≤ x)
first_passed true i n x h = (refl, omega arith)
first_passed false i n x h = absurd (omega arith)

pub all_passed : (pass : ℕ → Bool) (i n : ℕ) → i + n ≤ first_bad pass i n → (d : ℕ) → d < n → pass (i + d) ≡ true
unfolding first_bad
all_passed pass i zero h d u = absurd (omega arith)
all_passed pass i (suc n) h zero u = let e : i + 0 ≡ i = omega arith in rw e (first_passed (pass i) i n _ h).0
all_passed pass i (suc n) h (suc d) u =
    let e : i + suc d ≡ i + 1 + d = omega arith in
    rw e (all_passed pass (i + 1) n (first_passed (pass i) i n _ h).1 d (omega arith))

-- a check after another: it counts where the first refuses nothing
abbrev pub after : Verdict → Verdict → Verdict
after (Ok v) w = w
after (Err r) w = Err r

-- the table as the code goes through it: the trailer's refusals, then the records'
pub by_steps : (f : Facts) (room : ℕ)
    → first_refusal f room
    ≡ after (form_refusal f.length f.edition f.count f.distance) (records_verdict f.sum f.said f.bad f.count f.total room)
unfolding first_refusal
by_steps f room =
    each (ltb f.length trailer_size) (not (eqb f.edition 1)) (eqb f.count 0 || ltb functions_max f.count)
    (not (eqb f.distance (image_size f.count)) || ltb f.length (image_size f.count))
  where
    v : Verdict
    v = records_verdict f.sum f.said f.bad f.count f.total room

    each : (a b c d : Bool)
        → cond a (refused Length) (cond b (refused Edition) (cond c (refused Count) (cond d (refused Distance) v)))
        ≡ after (cond a (refused Length) (cond b (refused Edition) (cond c (refused Count) (cond d (refused Distance) accepted)))) v
    each true b c d = refl
    each false true c d = refl
    each false false true d = refl
    each false false false true = refl
    each false false false false = refl

-- of a fine image only the cells are left to ask, whatever number of them is lent
pub cells_left : (f : Facts) (r : ℕ) → Fine f r → (room : ℕ) → first_refusal f room ≡ cells_verdict f.total room
unfolding first_refusal
cells_left f r k room =
    rw (
      le-ltb f.length trailer_size k.long,
      eq-eqb f.edition 1 k.edition,
      ne_eqb f.count 0 (omega (arith, k.some)),
      le-ltb functions_max f.count k.few,
      eq-eqb f.distance (image_size f.count) k.distance,
      le-ltb f.length (image_size f.count) k.whole,
      eq-eqb f.sum f.said k.sum,
      le-ltb f.bad f.count k.rules,
    )

pub passes : (f : Facts) (room : ℕ) → Fine f room → first_refusal f room ≡ accepted
passes f room k = cells_left f room k room ∙ rw (le-ltb cells_max f.total k.total, le-ltb room f.total k.fits)

-- the same of an image's bytes
pub record Accepted (image : List ℕ) (room : ℕ) : Type 0 where
  pub short : length image ≤ image_max
  pub fine : Fine (facts_of image) room

pub accepted_image : (image : List ℕ) (room : ℕ) → is_accepted (checked image room) ≡ true → Accepted image room
unfolding checked
accepted_image image room e =
    let a = passed (ltb image_max (length image)) (refused Length) _ refl e in
    record { short = ltb-false image_max (length image) a.0; fine = fine (facts_of image) room a.1 }

pub accepted_passes : (image : List ℕ) (room : ℕ) → Accepted image room → checked image room ≡ accepted
unfolding checked
accepted_passes image room k = rw (le-ltb image_max (length image) k.short) (passes (facts_of image) room k.fine)

-- with any other number of cells lent
pub accepted_elsewhere : (image : List ℕ) (r : ℕ) → Accepted image r → (room : ℕ) → checked image room ≡ cells_verdict (facts_of image).total room
unfolding checked
accepted_elsewhere image r k room = rw (le-ltb image_max (length image) k.short) (cells_left (facts_of image) r k.fine room)

-- the records are all there
pub records_length : (image : List ℕ) (room : ℕ) → Accepted image room → length (records_of image) ≡ image_record * count_of image
records_length image room k =
    let h = k.fine.whole in
    length-take-le (image_record * count_of image) (drop (length image - image_size (count_of image)) image) (rw length-drop (omega arith))

-- and every one keeps the rules
pub records_ruled : (image : List ℕ) (room : ℕ) → Accepted image room → (i : ℕ) → i < count_of image → record_ok (record_at (records_of image) i) ≡ true
records_ruled image room k i h =
    let n : 0 + count_of image ≡ count_of image = omega arith in
    let e : 0 + i ≡ i = omega arith in
    rw e at (all_passed (λ j. record_ok (record_at (records_of image) j)) 0 (count_of image) (rw n k.fine.rules) i h)
