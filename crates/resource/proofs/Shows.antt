-- What stands in the buffer after an accepted call.
use Prim.Native.Nat.{ℕ, zero, suc, ◌+◌, ◌*◌, ◌<◌, ◌≤◌}
use native.Mathlib.Omega.{arith}
use native.Mathlib.Nat.{add-zero, zero-add}
use mathlib.Core.Bool.{Bool, true, false, cond}
use mathlib.Core.List.{List, [], ◌∷◌, ◌++◌, append_assoc}
use mathlib.Core.Logic.{inr}
use mathlib.Core.Path.{◌≡◌, refl, ◌∙◌, ap}
use lib.Dec.{eqb, ltb, eqb-suc-suc}
use lib.ListN.{length, get_or, drop, length-append}
use lib.Seq.{sets, length-sets, sets-eq}
use borrow.Author.Tests.{eq-eqb, eqb-true, eqb-false, ltb-false}
use Rattle.board.specs.Handles.{is_handle}
use Rattle.board.specs.Layout.{bases}
use Rattle.board.specs.Statuses.{successful, buffer_too_small, general_error, bad_handle}
use Rattle.numbers.proofs.Stores.{sets_other}
use Rattle.window.specs.Window.{register_space}
use Rattle.resource_descriptor.specs.declared.descriptor.Descriptor.{Descriptor}
use Rattle.resource_descriptor.specs.Descriptor.{size, descriptor_bytes, descriptors_bytes, descriptor_at}
use Rattle.window.specs.Window.{is_window}
use Rattle.resource.specs.Resource.{windows_from, window_bases, Source, descriptor_of, described, descriptors, ResourceOutcome, resource_outcome, resource, source_of, get_resource}
use Rattle.resource.specs.Meaning.{Shows, ResourceShows}
use Rattle.resource_descriptor.proofs.Fields.{bytes_size}
use Rattle.resource.proofs.Turns.{last_one}
use Rattle.resource.proofs.Back.{Small, fields_back, last_flag, parts_small}

-- the descriptors of some base registers, one after the other: the j-th is the j-th base register's
pub nth_fields : (s : Source) (l : List ℕ) (j : ℕ) (before after : List ℕ) → j < length l
    → Small (descriptor_of s (eqb (suc j) (length l)) (get_or l j 0))
    → descriptor_at (before ++ (descriptors_bytes (described s l) ++ after)) (length before + size * j) ≡ descriptor_of s (eqb (suc j) (length l)) (get_or l j 0)
unfolding described descriptors_bytes
nth_fields s [] j before after h small = absurd (omega arith)
nth_fields s (b ∷ l) zero before after h small =
    let d = descriptor_of s (eqb (length l) 0) b in
    let r = descriptors_bytes (described s l) in
    let q : before ++ ((descriptor_bytes d ++ r) ++ after) ≡ before ++ (descriptor_bytes d ++ (r ++ after)) = simp append_assoc in
    let t : eqb 1 (suc (length l)) ≡ eqb (length l) 0 = last_one 0 (length l) (suc (length l)) (omega arith) in
    rw (q, add-zero (length before), t) (fields_back d (rw t at small) before (r ++ after))
nth_fields s (b ∷ l) (suc j) before after h small =
    let d = descriptor_of s (eqb (length l) 0) b in
    let r = descriptors_bytes (described s l) in
    let q : before ++ ((descriptor_bytes d ++ r) ++ after) ≡ (before ++ descriptor_bytes d) ++ (r ++ after) = simp append_assoc in
    let p : length before + size * suc j ≡ length (before ++ descriptor_bytes d) + size * j = rw (length-append before (descriptor_bytes d), bytes_size d) (omega arith) in
    let t : eqb (suc (suc j)) (suc (length l)) ≡ eqb (suc j) (length l) = eqb-suc-suc (suc j) (length l) in
    rw (q, p, t) (nth_fields s l j (before ++ descriptor_bytes d) after (omega arith) (rw t at small))

-- every base register that has a window has an exponent of one
pub windows_have : (k : ℕ → ℕ) (n b j : ℕ) → j < length (windows_from k n b) → is_window (k (get_or (windows_from k n b) j 0)) ≡ true
unfolding windows_from
windows_have k zero b j h = absurd (omega arith)
windows_have k (suc n) b j h = by (is_window (k b)) refl j h (windows_have k n (b + 1))
  where
    by : (t : Bool) → is_window (k b) ≡ t → (j : ℕ) → j < length (cond t (b ∷ windows_from k n (b + 1)) (windows_from k n (b + 1)))
        → ((j : ℕ) → j < length (windows_from k n (b + 1)) → is_window (k (get_or (windows_from k n (b + 1)) j 0)) ≡ true)
        → is_window (k (get_or (cond t (b ∷ windows_from k n (b + 1)) (windows_from k n (b + 1))) j 0)) ≡ true
    by true e zero h more = e
    by true e (suc j) h more = more j (omega arith)
    by false e j h more = more j h

-- the descriptors of n base registers have 20 n bytes
pub described_size : (s : Source) (l : List ℕ) → length (descriptors_bytes (described s l)) ≡ size * length l
unfolding described descriptors_bytes
described_size s [] = refl
described_size s (b ∷ l) =
    let d = descriptor_of s (eqb (length l) 0) b in
    length-append (descriptor_bytes d) (descriptors_bytes (described s l)) ∙ rw (bytes_size d, described_size s l) (omega arith)

module _ (records registers windows : List ℕ) (handle : ℕ) (out : List ℕ) where
  abbrev s : Source
  s = source_of records registers windows handle

  abbrev bs : List ℕ
  bs = window_bases s.exponent

  -- where there is room
  shows : size * length bs ≤ length out → Shows s out (sets out 0 (descriptors_bytes (descriptors s)))
  shows h =
      record {
        fields = fields;
        last = λ j k.
            let b = get_or bs j 0 in
            let f = ap (λ (d : Descriptor). d.flags) (fields j k) in
            rw (f, last_flag (eqb (suc j) (length bs)) (eqb (register_space (s.register b)) 1) (s.widths b) (s.order b)) (eqb-true (suc j) (length bs), eq-eqb (suc j) (length bs));
        room = length-sets out 0 (descriptors_bytes (descriptors s));
        rest = λ i k. sets_other out 0 (descriptors_bytes (descriptors s)) i (inr (rw (zero-add (length (descriptors_bytes (descriptors s))), described_size s bs) k));
      }
    where
      fields : (j : ℕ) → j < length bs
          → descriptor_at (sets out 0 (descriptors_bytes (descriptors s))) (size * j) ≡ descriptor_of s (eqb (suc j) (length bs)) (get_or bs j 0)
      fields j k =
          let v = descriptors_bytes (descriptors s) in
          let fits : 0 + length v ≤ length out = rw (zero-add (length v), described_size s bs) h in
          let small = parts_small records registers windows handle (eqb (suc j) (length bs)) (get_or bs j 0) (windows_have s.exponent bases 0 j k) in
          rw (sets-eq v out 0 fits, ← zero-add (size * j)) (nth_fields s bs j [] (drop (0 + length v) out) k small)

  -- what the checks choose, and what an accepted call is
  abbrev chosen : Bool → Bool → Bool → ResourceOutcome
  chosen g z t =
      cond g (cond z (resource_outcome general_error out) (cond t (resource_outcome buffer_too_small out) (resource_outcome successful (sets out 0 (descriptors_bytes (descriptors s)))))) (resource_outcome bad_handle out)

  pub record Accepted (r : ResourceOutcome) : Type 0 where
    pub some : 0 < length bs
    pub room : size * length bs ≤ length out
    pub written : r.out ≡ sets out 0 (descriptors_bytes (descriptors s))

  accepted : (g z t : Bool) → eqb (length bs) 0 ≡ z → ltb (length out) (size * length bs) ≡ t → (chosen g z t).status ≡ successful → Accepted (chosen g z t)
  accepted true false false e f h =
      record {
        some = let n = eqb-false (length bs) 0 e in omega arith;
        room = ltb-false (length out) (size * length bs) f;
        written = refl;
      }
  accepted true false true e f h = absurd cc
  accepted true true t e f h = absurd cc
  accepted false z t e f h = absurd cc

  pub call_accepted : (header : List ℕ) → (get_resource header records registers windows handle out).status ≡ successful
      → Accepted (get_resource header records registers windows handle out)
  unfolding resource
  call_accepted header = accepted (is_handle header handle) (eqb (length bs) 0) (ltb (length out) (size * length bs)) refl refl

-- THEOREM: what an accepted call leaves
pub resource_shows : ResourceShows
resource_shows header records registers windows handle out h =
    let a = call_accepted records registers windows handle out header h in
    rw a.written (shows records registers windows handle out a.room)
