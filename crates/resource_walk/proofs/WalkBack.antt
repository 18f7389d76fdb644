-- A walk through what an accepted call wrote hands back the descriptors written.
use Prim.Native.Nat.{ℕ, suc, ◌+◌, ◌<◌, ◌≤◌}
use native.Mathlib.Omega.{arith}
use native.Mathlib.Nat.{zero-add}
use mathlib.Core.Bool.{Bool, true, false, cond}
use Rattle.std.specs.Prelude.{Option, Some}
use mathlib.Core.List.{List, [], ◌∷◌, ◌++◌, append_assoc}
use mathlib.Core.Path.{◌≡◌, refl, sym, ◌∙◌, ap}
use lib.Dec.{eqb, eqb-suc-zero}
use lib.ListN.{length, get_or, drop, length-append}
use lib.Seq.{sets-eq}
use borrow.Author.Tests.{le-leb}
use Rattle.board.specs.Layout.{bases}
use Rattle.window.specs.Window.{register_space}
use Rattle.resource_descriptor.specs.declared.descriptor.Descriptor.{Descriptor}
use Rattle.resource_walk.specs.declared.step.Step.{Step}
use Rattle.resource_descriptor.specs.Descriptor.{size, descriptor_bytes, descriptors_bytes, is_last}
use Rattle.resource.specs.Resource.{window_bases, Source, descriptor_of, described, descriptors, source_of}
use Rattle.resource_walk.specs.Walk.{following, step, step_at, handed, walk}
use Rattle.resource_walk.specs.Meaning.{WalkBack}
use Rattle.resource_descriptor.proofs.Fields.{bytes_size}
use Rattle.resource.proofs.Back.{Small, fields_back, last_flag, parts_small}
use Rattle.resource.proofs.Shows.{windows_have, described_size, call_accepted}
use Rattle.resource_walk.proofs.Walks.{step_none, walk_steps}

-- a descriptor that names the next one 20 bytes on leads there, or to the end if it is the last
leads : (n at : ℕ) (d : Descriptor) (last : Bool) → d.next ≡ size → is_last d ≡ last → following n at d ≡ cond last n (at + size)
leads n at d true e f = rw f
leads n at d false e f = rw (f, e)

step_back : (d : Descriptor) (last : Bool) → Small d → d.next ≡ size → is_last d ≡ last → (before after : List ℕ)
    → step_at (before ++ (descriptor_bytes d ++ after)) (length before)
    ≡ Some (step d (cond last (length (before ++ (descriptor_bytes d ++ after))) (length before + size)))
step_back d last small e f before after =
    let l = before ++ (descriptor_bytes d ++ after) in
    let h : length before + size ≤ length l = rw (length-append before (descriptor_bytes d ++ after), length-append (descriptor_bytes d) after, bytes_size d) (omega arith) in
    rw (le-leb (length before + size) (length l) h)
    (ap (λ (t : Descriptor). Some (step t (following (length l) (length before) t))) (fields_back d small before after)
    ∙ ap (λ (n : ℕ). Some (step d n)) (leads (length l) (length before) d last e f))

walk_one : (d : Descriptor) (last : Bool) → Small d → d.next ≡ size → is_last d ≡ last → (before after : List ℕ)
    → walk (before ++ (descriptor_bytes d ++ after)) (length before)
    ≡ d ∷ walk (before ++ (descriptor_bytes d ++ after)) (cond last (length (before ++ (descriptor_bytes d ++ after))) (length before + size))
walk_one d last small e f before after =
    let l = before ++ (descriptor_bytes d ++ after) in
    walk_steps l (length before) ∙ ap (λ (t : Option Step). handed t (walk l)) (step_back d last small e f before after)

walk_end : (l : List ℕ) → walk l (length l) ≡ []
walk_end l = walk_steps l (length l) ∙ ap (λ (t : Option Step). handed t (walk l)) (step_none l (length l) (omega arith))

module _ (s : Source) where
  is_last_lem : (last : Bool) (b : ℕ) → is_last (descriptor_of s last b) ≡ last
  is_last_lem last b = last_flag last (eqb (register_space (s.register b)) 1) (s.widths b) (s.order b)

  -- from the descriptor of the first of some base registers, one after the other
  walk_described : (b : ℕ) (l before after : List ℕ) → ((last : Bool) (j : ℕ) → j < suc (length l) → Small (descriptor_of s last (get_or (b ∷ l) j 0)))
      → walk (before ++ (descriptors_bytes (described s (b ∷ l)) ++ after)) (length before) ≡ described s (b ∷ l)
  unfolding described descriptors_bytes
  walk_described b [] before after small =
      let d = descriptor_of s true b in
      rw (append_assoc (descriptor_bytes d) [] after)
      (walk_one d true (small true 0 (omega arith)) refl (is_last_lem true b) before after ∙ rw (walk_end (before ++ (descriptor_bytes d ++ after))))
  walk_described b (c ∷ l) before after small =
      let d = descriptor_of s false b in
      let r = descriptors_bytes (described s (c ∷ l)) in
      let p : length before + size ≡ length (before ++ descriptor_bytes d) = sym (length-append before (descriptor_bytes d) ∙ rw (bytes_size d)) in
      let more : walk (before ++ (descriptor_bytes d ++ (r ++ after))) (length before + size) ≡ described s (c ∷ l) =
      rw (← append_assoc before (descriptor_bytes d) (r ++ after), p)
      (walk_described c l (before ++ descriptor_bytes d) after (λ last j h. small last (suc j) (omega arith))) in
      rw (eqb-suc-zero (length l), append_assoc (descriptor_bytes d) r after)
      (walk_one d false (small false 0 (omega arith)) refl (is_last_lem false b) before (r ++ after) ∙ rw more)

-- THEOREM: a walk through what an accepted call wrote hands back the descriptors written
pub walk_back : WalkBack
walk_back header records registers windows handle out h =
    let s = source_of records registers windows handle in
    let a = call_accepted records registers windows handle out header h in
    let v = descriptors_bytes (descriptors s) in
    let fits : 0 + length v ≤ length out = rw (zero-add (length v), described_size s (window_bases s.exponent)) a.room in
    rw (a.written, sets-eq v out 0 fits)
    (by (window_bases s.exponent) (drop (0 + length v) out) a.some
    (λ last j k. parts_small records registers windows handle last (get_or (window_bases s.exponent) j 0) (windows_have s.exponent bases 0 j k)))
  where
    by : (l rest : List ℕ) → 0 < length l
        → ((last : Bool) (j : ℕ) → j < length l → Small (descriptor_of (source_of records registers windows handle) last (get_or l j 0)))
        → walk (descriptors_bytes (described (source_of records registers windows handle) l) ++ rest) 0 ≡ described (source_of records registers windows handle) l
    by [] rest k small = absurd (omega arith)
    by (b ∷ l) rest k small = walk_described (source_of records registers windows handle) b l [] rest small
