-- For claim 1: the verdicts that a load can give.
use Prim.Native.Nat.{ℕ}
use mathlib.Core.Bool.{true, not, ◌||◌}
use Rattle.std.specs.Prelude.{Ok, Err}
use mathlib.Core.Logic.{inl, inr}
use mathlib.Core.Path.{◌≡◌, refl}
use mathlib.Core.List.{List}
use lib.Dec.{ltb, eqb}
use lib.ListN.{length}
use Rattle.board.specs.Layout.{functions_max}
use Rattle.image_layout.specs.Image.{trailer_size, image_size}
use Rattle.image_refusals.specs.Refusals.{Facts, Verdict, image_refusal_number, image_refusal_place, image_max, cells_max, accepted, refused, bad_record, first_refusal}
use Rattle.image_check.specs.Check.{facts_of, checked}
use Rattle.image_refusals.specs.declared.verdict.ImageRefusal.{ImageRefusal}
use Rattle.image_refusals.specs.declared.verdict.ImageRefusal.TheVariants.{Length, Edition, Count, Distance, Sum, Record, Windows, Cells}
use Rattle.call.specs.declared.call.Call.TheVariants.{Load}
use Rattle.call.specs.Answers.{refuses}
use Rattle.reference.specs.Claims.{Among, refusals}
use Rattle.reference.proofs.Tests.{if_test}

-- every refusal of an image has a number that refuses
pub refuses_image : (r : ImageRefusal) → refuses (image_refusal_number r) ≡ true
refuses_image Length = refl
refuses_image Edition = refl
refuses_image Count = refl
refuses_image Distance = refl
refuses_image Sum = refl
refuses_image (Record place) = refl
refuses_image Windows = refl
refuses_image Cells = refl

-- an image is accepted or refused: what is proved need not be said of the term that judges
pub if_accepted : {X : Type 0} (v : Verdict) → (v ≡ accepted → X) → ((r : ImageRefusal) → v ≡ Err r → X) → X
if_accepted (Ok tt) f g = f refl
if_accepted (Err r) f g = g r refl

-- every verdict is acceptance, the refusal of a record, or one of the other numbers
pub data Stated : Verdict → Type 0 where
  fine : Stated accepted
  bad : (i : ℕ) → Stated (bad_record i)
  plain : (r : ImageRefusal) → Among (image_refusal_number r) (refusals Load) → image_refusal_place r ≡ 0 → Stated (refused r)

facts_stated : (f : Facts) (room : ℕ) → Stated (first_refusal f room)
unfolding first_refusal
facts_stated f room =
    if_test Stated (ltb f.length trailer_size) (λ e. plain Length (inl refl) refl) (λ e.
    if_test Stated (not (eqb f.edition 1)) (λ e. plain Edition (inr (inl refl)) refl) (λ e.
    if_test Stated (eqb f.count 0 || ltb functions_max f.count) (λ e. plain Count (inr (inr (inl refl))) refl) (λ e.
    if_test Stated (not (eqb f.distance (image_size f.count)) || ltb f.length (image_size f.count))
    (λ e. plain Distance (inr (inr (inr (inl refl)))) refl) (λ e.
    if_test Stated (not (eqb f.sum f.said)) (λ e. plain Sum (inr (inr (inr (inr (inl refl))))) refl) (λ e.
    if_test Stated (ltb f.bad f.count) (λ e. bad f.bad) (λ e.
    if_test Stated (ltb cells_max f.total) (λ e. plain Windows (inr (inr (inr (inr (inr (inr (inl refl))))))) refl) (λ e.
    if_test Stated (ltb room f.total) (λ e. plain Cells (inr (inr (inr (inr (inr (inr (inr (inl refl)))))))) refl) (λ e. fine))))))))

pub stated : (image : List ℕ) (room : ℕ) → Stated (checked image room)
unfolding checked
stated image room = if_test Stated (ltb image_max (length image)) (λ e. plain Length (inl refl) refl) (λ e. facts_stated (facts_of image) room)

-- a verdict is one of them: what is proved need not be said of the term that judges
pub if_verdict : {X : Type 0} {v : Verdict} → Stated v → (v ≡ accepted → X) → ((i : ℕ) → v ≡ bad_record i → X)
    → ((r : ImageRefusal) → Among (image_refusal_number r) (refusals Load) → image_refusal_place r ≡ 0 → v ≡ refused r → X) → X
if_verdict fine f g h = f refl
if_verdict (bad i) f g h = g i refl
if_verdict (plain r a z) f g h = h r a z refl
