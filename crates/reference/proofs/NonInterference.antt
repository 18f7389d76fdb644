-- Claim 4: data calls through one handle are not seen by any other call.
use Prim.Native.Nat.{ℕ}
use native.Mathlib.Omega.{arith}
use mathlib.Core.Bool.{Bool, true, false}
use mathlib.Core.Path.{◌≡◌, refl}
use mathlib.Core.List.{List, [], ◌∷◌}
use Rattle.reference.specs.Reference.{Reference, reference_start}
use Rattle.reference.specs.Run.{Request, reference_responses, reference_after, parts_of}
use Rattle.reference.specs.Claims.{Refinement, struck_out, without_data_of, responses_without_data_of, Unseen, NonInterference}
use Rattle.reference.proofs.Like.{Like, by_cells, like_both}
use Rattle.reference.proofs.Quiet.{quiet}
use Rattle.reference.proofs.Seen.{seen}

-- the run on all calls, against the run on those that are left
record Purged (h : ℕ) (b d : Reference) (cs : List Request) : Type 0 where
  answered : responses_without_data_of h cs (reference_responses b cs) ≡ reference_responses d (without_data_of h cs)
  like : Like h (reference_after b cs) (reference_after d (without_data_of h cs))

purge_more : {h : ℕ} {b d : Reference} → Like h b d → (c : Request) (cs : List Request) → ((x y : Reference) → Like h x y → Purged h x y cs)
    → (t : Bool) → struck_out h c.call ≡ t → Purged h b d (c ∷ cs)
unfolding without_data_of responses_without_data_of reference_responses reference_after
purge_more l c cs more true t =
    let r = more _ _ (quiet l c.call c.own t) in
    record { answered = rw t r.answered; like = rw t r.like }
purge_more l c cs more false t =
    let n = seen l c.call c.own t in
    let r = more _ _ n.like in
    record { answered = rw (t, n.answer, n.own, r.answered); like = rw t r.like }

purge : {h : ℕ} {b d : Reference} → Like h b d → (cs : List Request) → Purged h b d cs
unfolding without_data_of responses_without_data_of reference_responses reference_after
purge l [] = record { answered = refl; like = l }
purge {h} l (c ∷ cs) = purge_more l c cs (λ x y m. purge m cs) (struck_out h c.call) refl

parts_like : {h : ℕ} {b d : Reference} → Like h b d → Unseen h b.records (parts_of b) (parts_of d)
unfolding parts_of
parts_like {h} {b} l =
    by_cells (λ d. Unseen h b.records (parts_of b) (parts_of d)) l
    (λ m k. record {
      header = refl;
      records = refl;
      registers = refl;
      windows = refl;
      offsets = refl;
      hooks = refl;
      used = refl;
      room = k.others.room;
      cells = k.others.same;
    })

like_start : (h : ℕ) (cells : List ℕ) → Like h (reference_start cells) (reference_start cells)
like_start h cells = record { few = omega arith; rest = refl; others = record { room = refl; same = λ i b o n f s k. refl } }

pub non_interference_lem : Refinement → NonInterference
non_interference_lem r h cells cs ds q =
    let c = r cells cs in
    let d = r cells ds in
    let p = purge (like_start h cells) cs in
    let s = purge (like_start h cells) ds in
    record {
      answered = rw (c.answered, d.answered, p.answered, s.answered, q);
      unseen = rw (c.stands, d.stands) (parts_like (like_both p.like (rw (← q) at s.like)));
    }
