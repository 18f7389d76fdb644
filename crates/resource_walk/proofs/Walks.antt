-- A walk through descriptor bytes: it ends, it is its steps one after the other, and through
-- descriptors as written it hands them back.
use Prim.Native.Nat.{ℕ, zero, suc, ◌+◌, ◌-◌, ◌*◌, ◌<◌, ◌≤◌}
use native.Mathlib.Omega.{arith}
use mathlib.Core.Bool.{Bool, true, false, not, ◌&&◌, cond, true≢false}
use Rattle.std.specs.Prelude.{Option, Some, None}
use mathlib.Core.List.{List, ◌∷◌}
use mathlib.Core.Path.{◌≡◌, refl, sym, ◌∙◌, ap}
use lib.Dec.{leb}
use lib.ListN.{length, drop}
use lib.Seq.{drop-nil}
use borrow.Author.Tests.{leb-true, lt-leb}
use Rattle.resource_descriptor.specs.declared.descriptor.Descriptor.{Descriptor}
use Rattle.resource_walk.specs.declared.step.Step.{Step}
use Rattle.resource_descriptor.specs.Descriptor.{size, descriptor_at, is_last}
use Rattle.resource_walk.specs.Walk.{following, step, step_at, position, handed, walk_for, walk, stands}
use Rattle.resource_walk.specs.Meaning.{WalkMeans}

-- the next position is at least 20 bytes on
following_on : (n at : ℕ) (d : Descriptor) → at + size ≤ n → at + size ≤ following n at d
following_on n at d h = by (is_last d) (leb size d.next) refl
  where
    by : (l s : Bool) → leb size d.next ≡ s → at + size ≤ cond (not l && s) (at + d.next) n
    by true s e = h
    by false true e = omega (arith, leb-true size d.next e)
    by false false e = h

module _ (bytes : List ℕ) where
  -- where 20 bytes do not remain there is no step; a step is made where they do, and goes on by 20 or more
  pub step_none : (at : ℕ) → length bytes < at + size → step_at bytes at ≡ None
  step_none at h = rw (lt-leb (at + size) (length bytes) h)

  step_on_lem : (at : ℕ) (s : Step) → step_at bytes at ≡ Some s → (at + size ≤ length bytes) × (at + size ≤ s.following)
  step_on_lem at s = by (leb (at + size) (length bytes)) refl
    where
      by : (t : Bool) → leb (at + size) (length bytes) ≡ t
          → cond t (Some (step (descriptor_at bytes at) (following (length bytes) at (descriptor_at bytes at)))) None ≡ Some s
          → (at + size ≤ length bytes) × (at + size ≤ s.following)
      by true e f =
          let h = leb-true (at + size) (length bytes) e in
          let m : step (descriptor_at bytes at) (following (length bytes) at (descriptor_at bytes at)) ≡ s = cc in
          let g : following (length bytes) at (descriptor_at bytes at) ≡ s.following = ap (λ (x : Step). x.following) m in
          (h, rw g at (following_on (length bytes) at (descriptor_at bytes at) h))
      by false e f = absurd (true≢false cc)

  -- one proof for both cases of a step
  by_step : (P : Option Step → Type 0) (at : ℕ) → (step_at bytes at ≡ None → P None)
      → ((s : Step) → step_at bytes at ≡ Some s → P (Some s)) → P (step_at bytes at)
  by_step P at none on = by (step_at bytes at) none on
    where
      by : (r : Option Step) → (r ≡ None → P None) → ((s : Step) → r ≡ Some s → P (Some s)) → P r
      by (Some s) none on = on s refl
      by None none on = none refl

  -- as many steps as bytes remain are enough
  enough : (n m at : ℕ) → length bytes ≤ at + n → length bytes ≤ at + m → walk_for n bytes at ≡ walk_for m bytes at
  unfolding walk_for
  enough zero zero at h k = refl
  enough zero (suc m) at h k = rw (step_none at (omega arith))
  enough (suc n) zero at h k = rw (step_none at (omega arith))
  enough (suc n) (suc m) at h k =
      by_step (λ s. handed s (λ next. walk_for n bytes next) ≡ handed s (λ next. walk_for m bytes next)) at (λ e. refl)
      (λ t e. ap (λ (l : List Descriptor). t.descriptor ∷ l) (enough n m t.following (omega (arith, step_on_lem at t e)) (omega (arith, step_on_lem at t e))))

  -- a walk is its first step and the walk from the position after it
  pub walk_steps : (at : ℕ) → walk bytes at ≡ handed (step_at bytes at) (walk bytes)
  unfolding walk_for
  walk_steps at = by (length bytes) refl
    where
      by : (n : ℕ) → length bytes ≡ n → walk_for n bytes at ≡ handed (step_at bytes at) (λ next. walk_for n bytes next)
      by zero e = rw (step_none at (omega arith))
      by (suc n) e =
          by_step (λ s. handed s (λ next. walk_for n bytes next) ≡ handed s (λ next. walk_for (suc n) bytes next)) at (λ f. refl)
          (λ t f. ap (λ (l : List Descriptor). t.descriptor ∷ l) (enough n (suc n) t.following (omega (arith, step_on_lem at t f)) (omega arith)))

  -- each descriptor takes 20 bytes
  few : (n at : ℕ) → size * length (walk_for n bytes at) ≤ length bytes - at
  unfolding walk_for
  few zero at = omega arith
  few (suc n) at =
      by_step (λ s. size * length (handed s (λ next. walk_for n bytes next)) ≤ length bytes - at) at (λ e. omega arith)
      (λ t e. omega (arith, few n t.following, step_on_lem at t e))

  further : (n at : ℕ) → walk bytes (stands n bytes at) ≡ drop n (walk bytes at)
  unfolding stands
  further zero at = refl
  further (suc n) at =
      further n (position at (step_at bytes at))
      ∙ by_step (λ s. drop n (walk bytes (position at s)) ≡ drop (suc n) (handed s (walk bytes))) at
      (λ e. rw (walk_steps at, e) (drop-nil n)) (λ t e. refl)
      ∙ ap (drop (suc n)) (sym (walk_steps at))

  ended : (at : ℕ) → step_at bytes at ≡ None → (n : ℕ) → step_at bytes (stands n bytes at) ≡ None
  unfolding stands
  ended at e zero = e
  ended at e (suc n) = rw e (ended at e n)

-- THEOREM: what a walk is
pub walk_means : WalkMeans
walk_means bytes at = record { steps = walk_steps bytes at; few = few bytes (length bytes) at; further = λ n. further bytes n at; ended = ended bytes at }
