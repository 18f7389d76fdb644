-- Searches: what they depend on, a turn of the walk over the functions, and index n as the match
-- with n matches before it.
use Prim.Native.Nat.{ℕ, zero, suc, ◌+◌, ◌-◌, ◌%◌, ◌<◌, ◌≤◌}
use native.Mathlib.Nat.{add-zero, zero-add, add-suc}
use native.Mathlib.Numerals.{add-one}
use native.Mathlib.Omega.{arith}
use mathlib.Core.Bool.{Bool, true, false, cond}
use mathlib.Core.List.{List, [], ◌∷◌}
use Rattle.std.specs.Prelude.{Ok, Err}
use mathlib.Core.Logic.{◌⊎◌, inl, inr, ⊎_elim}
use mathlib.Core.Path.{◌≡◌, refl, ◌∙◌, ap}
use Rattle.board.specs.Layout.{registers_each}
use Rattle.numbers.specs.Numbers.{little}
use Rattle.board.specs.declared.status.CallRefusal.TheVariants.{DeviceNotFound}
use Rattle.numbers.proofs.Numbers.{little_same}
use Rattle.search.specs.Search.{Search, device_matches, class_matches, matching, searched, found_number, search_number, Sought, handles, refused_with, sought_at, sought_number, Finds}
use Rattle.search.specs.Meaning.{matches_before, Indexed, IndexRule}

-- the number of the answer at an index is the number that document 01 gives it
pub search_number_lem : (hs : List ℕ) (n : ℕ) → found_number (searched hs n) ≡ search_number hs n
unfolding searched search_number
search_number_lem [] n = refl
search_number_lem (h ∷ hs) zero = refl
search_number_lem (h ∷ hs) (suc n) = search_number_lem hs n

pub sought_number_lem : (s : Sought) (n : ℕ) → found_number (sought_at s n) ≡ sought_number s n
unfolding sought_at sought_number
sought_number_lem (handles hs) n = search_number_lem hs n
sought_number_lem (refused_with refusal) n = refl

pub finds : (s : Sought) (n : ℕ) (r : Search) → r ≡ sought_at s n → Finds s n r
finds s n r e = record { answer = e; number = ap found_number e ∙ sought_number_lem s n }

-- a search depends on the functions that it looks at
pub matching_same : (m m' : ℕ → Bool) (i n : ℕ) → ((j : ℕ) → j < i + n → m j ≡ m' j) → matching m i n ≡ matching m' i n
unfolding matching
matching_same m m' i zero e = refl
matching_same m m' i (suc n) e = rw (e i (omega arith), matching_same m m' (i + 1) n (λ j h. e j (omega arith)))

-- and a match on the function's registers
pub device_same : (id : ℕ) (f g : ℕ → ℕ) → ((at : ℕ) → at < registers_each → f at ≡ g at) → device_matches id f ≡ device_matches id g
device_same id f g e = rw (number 0 (omega arith), number 2 (omega arith))
  where
    number : (at : ℕ) → at < 4 → little 2 f at ≡ little 2 g at
    number at h = little_same 2 f g at at (λ i l. ap (λ b. b % 256) (e (at + i) (omega arith)))

pub class_same : (class : ℕ) (f g : ℕ → ℕ) → ((at : ℕ) → at < registers_each → f at ≡ g at) → class_matches class f ≡ class_matches class g
class_same class f g e = rw (e 0x0B (omega arith), e 0x0A (omega arith), e 0x09 (omega arith))

module _ (m : ℕ → Bool) where
  -- a turn at place i, where one function and the rest are left: found, a match that is counted, no match
  module _ (i left rest : ℕ) (more : left ≡ suc rest) where
    pub turn_found : (n : ℕ) → m i ≡ true → n ≡ 0 → searched (matching m i left) n ≡ Ok (i + 1)
    unfolding matching searched
    turn_found n e z = rw (more, e, z)

    pub turn_counted : (n : ℕ) → m i ≡ true → (n ≡ 0 → ⊥) → searched (matching m i left) n ≡ searched (matching m (i + 1) rest) (n - 1)
    unfolding matching searched
    turn_counted zero e z = absurd (z refl)
    turn_counted (suc n) e z = let back : suc n - 1 ≡ n = omega arith in rw (more, e, back)

    pub turn_passed : (n : ℕ) → m i ≡ false → searched (matching m i left) n ≡ searched (matching m (i + 1) rest) n
    unfolding matching
    turn_passed n e = rw (more, e)

  -- a place counts for the next one exactly if it matches
  before_next : (i : ℕ) (b : Bool) → m i ≡ b → matches_before m (i + 1) ≡ matches_before m i + cond b 1 0
  unfolding matches_before
  before_next i b e = rw (add-one, e)

  -- a later place has more matches before it than a match has
  before_more : (i d : ℕ) → m i ≡ true → matches_before m i < matches_before m (i + suc d)
  unfolding matches_before
  before_more i zero e = rw (add-one, e) (omega arith)
  before_more i (suc d) e = rw (add-suc i (suc d)) (omega (arith, before_more i d e))

  before_apart : (i j : ℕ) → m i ≡ true → i < j → matches_before m i < matches_before m j
  before_apart i j e h = let later : i + suc (j - i - 1) ≡ j = omega arith in rw later at (before_more i (j - i - 1) e)

  -- so matches with as many before them are one
  one_place : (i j : ℕ) → m i ≡ true → m j ≡ true → matches_before m i ≡ matches_before m j → i ≡ j
  one_place i j e f same =
      let low : i < j → ⊥ = λ h. omega (arith, before_apart i j e h) in
      let high : j < i → ⊥ = λ h. omega (arith, before_apart j i f h) in
      omega arith

  -- j, of the n places from i on, is the match with k matches of them before it
  record Place (i n k j : ℕ) : Type 0 where
    pub from : i ≤ j
    pub to : j < i + n
    pub here : m j ≡ true
    pub before : matches_before m j ≡ matches_before m i + k

  -- index k is answered by such a place, or refused where the matches are too few
  abbrev Ends : ℕ → ℕ → ℕ → Type 0
  Ends i n k =
      ((j : ℕ) × (searched (matching m i n) k ≡ Ok (j + 1)) × Place i n k j)
      ⊎ ((searched (matching m i n) k ≡ Err DeviceNotFound) × (matches_before m (i + n) ≤ matches_before m i + k))

  -- a turn that goes on
  goes_on : (i n k l : ℕ) → searched (matching m i (suc n)) k ≡ searched (matching m (i + 1) n) l
      → matches_before m i + k ≡ matches_before m (i + 1) + l → Ends (i + 1) n l → Ends i (suc n) k
  goes_on i n k l e c =
      ⊎_elim
      (λ t.
      let p = t.2 in
      inl (t.0, e ∙ t.1, record { from = omega arith; to = omega arith; here = p.here; before = omega arith }))
      (λ t. let next : i + suc n ≡ i + 1 + n = omega arith in inr (e ∙ t.0, rw (next, c) t.1))

  ends : (n i k : ℕ) → Ends i n k
  unfolding matching searched
  ends zero i k = inr (refl, rw (add-zero i) (omega arith))
  ends (suc n) i k = by (m i) refl k (ends n (i + 1))
    where
      by : (b : Bool) → m i ≡ b → (k : ℕ) → ((k : ℕ) → Ends (i + 1) n k) → Ends i (suc n) k
      by true e zero ih =
          inl (i, turn_found i (suc n) n refl zero e refl, record { from = omega arith; to = omega arith; here = e; before = omega arith })
      by true e (suc k) ih =
          goes_on i n (suc k) (suc k - 1) (turn_counted i (suc n) n refl (suc k) e (λ z. omega arith)) (omega (arith, before_next i true e))
          (ih (suc k - 1))
      by false e k ih = goes_on i n k k (turn_passed i (suc n) n refl k e) (omega (arith, before_next i false e)) (ih k)

  -- of all places from 0 on: an index that is answered, and one that is refused
  found_one : (count n j : ℕ) → searched (matching m 0 count) n ≡ Ok (j + 1) → Place 0 count n j → Indexed m count n
  unfolding matches_before
  found_one count n j e p =
      record {
        found = λ i. (
          λ f. let same : j + 1 ≡ i + 1 = cc in let place : j ≡ i = omega arith in rw (← place) (omega arith, (p.here, p.before ∙ zero-add n)),
          λ q. let place : j ≡ i = one_place j i p.here q.1.0 (omega arith) in rw place at e,
        );
        missing = (
          λ f. absurd (let z : ◌≡◌ {A = ℕ} 0 1 = cc in omega arith),
          λ h. absurd (omega (arith, before_apart j count p.here (omega arith))),
        );
      }

  found_none : (count n : ℕ) → searched (matching m 0 count) n ≡ Err DeviceNotFound → matches_before m count ≤ n → Indexed m count n
  found_none count n e h =
      record {
        found = λ i. (
          λ f. absurd (let z : ◌≡◌ {A = ℕ} 0 1 = cc in omega arith),
          λ q. absurd (omega (arith, before_apart i count q.1.0 q.0)),
        );
        missing = (λ f. h, λ k. e);
      }

-- THEOREM: index n gives the match with exactly n matches before it, and none exactly if there are n or fewer
pub index_rule : IndexRule
unfolding matches_before
index_rule m count n =
    ⊎_elim (λ t. found_one m count n t.0 t.1 t.2) (λ t. found_none m count n t.0 (rw (zero-add count, zero-add n) at t.1)) (ends m count 0 n)
