-- The handle that a search finds is small: it is at most the count of functions.
use Prim.Native.Nat.{ℕ, zero, suc, ◌+◌, ◌≤◌, ◌<◌}
use native.Mathlib.Nat.{min-le_right}
use native.Mathlib.Omega.{arith}
use mathlib.Core.Bool.{Bool, true, false, cond}
use mathlib.Core.List.{List, ◌∷◌}
use lib.ListN.{get_or}
use Rattle.board.specs.Handles.{function_count}
use Rattle.board.specs.declared.status.CallRefusal.{CallRefusal}
use Rattle.std.specs.Prelude.{Result}
use Rattle.call_edition.specs.Edition.{is_known, is_bad_vendor, id_of, class_of}
use Rattle.call_edition.specs.declared.edition.InEdition.{InEdition}
use Rattle.search.specs.Search.{device_matches, class_matches, matching, searched, Sought, handles, refused_with, sought_devices, sought_classes, sought_at, Finds}
use Rattle.call.specs.Steps.{handle_found}

at_most : (m : ℕ → Bool) (n i k : ℕ) → handle_found (searched (matching m i n) k) ≤ i + n
unfolding matching searched
at_most m zero i k = omega arith
at_most m (suc n) i k = by (m i) k (at_most m n (i + 1))
  where
    by : (b : Bool) (k : ℕ) → ((k : ℕ) → handle_found (searched (matching m (i + 1) n) k) ≤ i + 1 + n)
        → handle_found (searched (cond b ((i + 1) ∷ matching m (i + 1) n) (matching m (i + 1) n)) k) ≤ i + suc n
    by true zero ih = omega arith
    by true (suc k) ih = omega (arith, ih k)
    by false k ih = omega (arith, ih k)

-- what is sought gives no large handle at an index
abbrev Small : ℕ → Sought → Type 0
Small n s = handle_found (sought_at s n) < 256

matches_small : (header : List ℕ) (m : ℕ → Bool) (n : ℕ) → Small n (handles (matching m 0 (function_count header)))
unfolding sought_at
matches_small header m n = omega (arith, at_most m (function_count header) 0 n, min-le_right (get_or header 0 0) 16)

-- one that is refused gives none
refused_small : (n : ℕ) (b : Bool) (refusal : CallRefusal) (s : Sought) → Small n s → Small n (cond b (refused_with refusal) s)
unfolding sought_at
refused_small n true refusal s h = omega arith
refused_small n false refusal s h = h

known_small : (n : ℕ) (b : Bool) (refusal : CallRefusal) (s : Sought) → Small n s → Small n (cond b s (refused_with refusal))
unfolding sought_at
known_small n true refusal s h = h
known_small n false refusal s h = omega arith

found_small : (sought : Sought) (n : ℕ) (s : Result ℕ CallRefusal) → Small n sought → Finds sought n s → handle_found s < 256
found_small sought n s h f = rw f.answer h

pub device_small : (header : List ℕ) (id : InEdition) (r : ℕ → ℕ → ℕ) (n : ℕ) (s : Result ℕ CallRefusal)
    → Finds (sought_devices id (function_count header) r) n s → handle_found s < 256
device_small header id r n s =
    found_small _ n s
    (known_small n (is_known id) _ _ (refused_small n (is_bad_vendor id) _ _ (matches_small header (λ i. device_matches (id_of id) (r i)) n)))

pub class_small : (header : List ℕ) (class : InEdition) (r : ℕ → ℕ → ℕ) (n : ℕ) (s : Result ℕ CallRefusal)
    → Finds (sought_classes class (function_count header) r) n s → handle_found s < 256
class_small header class r n s =
    found_small _ n s (known_small n (is_known class) _ _ (matches_small header (λ i. class_matches (class_of class) (r i)) n))
