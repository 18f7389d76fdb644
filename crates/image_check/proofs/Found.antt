-- Laws of the first place that does not pass.
use Prim.Native.Nat.{ℕ, zero, suc, ◌+◌, ◌<◌, ◌≤◌}
use native.Mathlib.Omega.{arith}
use mathlib.Core.Bool.{Bool, true, false}
use mathlib.Core.Path.{◌≡◌}
use Rattle.std.specs.Prelude.{Option, None, Some, MatchOption}
use Rattle.image_refusals.specs.Refusals.{first_bad}
use Rattle.image_check.specs.Steps.{FoundBad}

-- of the n places from i on all pass
none_bad : (pass : ℕ → Bool) (i n : ℕ) → ((k : ℕ) → i ≤ k → k < i + n → pass k ≡ true) → first_bad pass i n ≡ i + n
unfolding first_bad
none_bad pass i zero h = omega arith
none_bad pass i (suc n) h =
    let e : i + 1 + n ≡ i + suc n = omega arith in
    rw (h i (omega arith) (omega arith), none_bad pass (i + 1) n (λ k a b. h k (omega arith) (omega arith))) e

-- the place d behind i does not pass, and all before it do
one_bad : (pass : ℕ → Bool) (i d n : ℕ) → d < n → ((k : ℕ) → i ≤ k → k < i + d → pass k ≡ true) → pass (i + d) ≡ false
    → first_bad pass i n ≡ i + d
unfolding first_bad
one_bad pass i d zero u h e = absurd (omega arith)
one_bad pass i zero (suc n) u h e = let z : i + 0 ≡ i = omega arith in rw (rw z at e) (omega arith)
one_bad pass i (suc d) (suc n) u h e =
    let z : i + suc d ≡ i + 1 + d = omega arith in
    rw (h i (omega arith) (omega arith), z) (one_bad pass (i + 1) d n (omega arith) (λ k a b. h k (omega arith) (omega arith)) (rw z at e))

-- what a search from the first place on finds
pub found_bad : (pass : ℕ → Bool) (count : ℕ) (found : Option ℕ)
    → MatchOption found ((k : ℕ) → 0 ≤ k → k < count → pass k ≡ true)
    (λ i. (0 ≤ i) × (i < count) × (pass i ≡ false) × ((k : ℕ) → 0 ≤ k → k < i → pass k ≡ true))
    → FoundBad pass count found
found_bad pass count None h =
    let z : 0 + count ≡ count = omega arith in
    rw z at (none_bad pass 0 count (λ k a b. h k a (omega arith)))
found_bad pass count (Some i) h =
    let z : 0 + i ≡ i = omega arith in
    (h.1, rw z at (one_bad pass 0 i count h.1 (λ k a b. h.3 k a (omega arith)) (rw (← z) at h.2)))
