-- Claim 2: a run of the program is a run of the reference machine.
use mathlib.Core.Path.{◌≡◌, refl}
use mathlib.Core.List.{List, [], ◌∷◌}
use Rattle.reference.specs.Reference.{Reference, reference_start}
use Rattle.reference.specs.Run.{Request, reference_on, responses, parts_after, reference_responses, reference_after, parts_of}
use Rattle.reference.specs.Claims.{Refinement}
use Rattle.reference.proofs.Sound.{Sound}
use Rattle.reference.proofs.Simulation.{same, sound_start, start_same}

pub record Goes (b : Reference) (cs : List Request) : Type 0 where
  pub answered : responses (parts_of b) cs ≡ reference_responses b cs
  pub stands : parts_after (parts_of b) cs ≡ parts_of (reference_after b cs)
  pub sound : Sound (reference_after b cs)

pub goes : (b : Reference) → Sound b → (cs : List Request) → Goes b cs
unfolding responses parts_after reference_responses reference_after
goes b s [] = record { answered = refl; stands = refl; sound = s }
goes b s (c ∷ cs) =
    let n = same b s c.call c.own in
    let r = goes (reference_on b c).reference n.sound cs in
    record { answered = rw (n.answer, n.own, n.parts, r.answered); stands = rw n.parts r.stands; sound = r.sound }

pub refinement : Refinement
refinement cells cs =
    let g = goes (reference_start cells) (sound_start cells) cs in
    record { answered = rw (start_same cells) g.answered; stands = rw (start_same cells) g.stands }
