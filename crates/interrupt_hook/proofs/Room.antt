-- Hooks of as many functions as there may be, each hooked once, are no more than those: so one that
-- is not hooked finds room.
use Prim.Native.Nat.{ℕ, zero, suc, ◌<◌, ◌≤◌}
use native.Mathlib.Omega.{arith}
use mathlib.Core.Bool.{Bool, true, false, cond}
use mathlib.Core.List.{List, [], ◌∷◌}
use mathlib.Core.Path.{◌≡◌, refl}
use lib.Dec.{eqb}
use lib.ListN.{length}
use borrow.Author.Tests.{eqb-true, eqb-false}
use Rattle.numbers.proofs.Tests.{either_false}
use Rattle.interrupt_array.specs.declared.hooks.Hook.{Hook}
use Rattle.interrupt_array.specs.Hooks.{hook}
use Rattle.interrupt_hook.specs.Meaning.{EveryHook, is_among, without}

-- each handle at most once
abbrev pub Once : List Hook → Type 0
Once [] = Unit {0}
Once (h ∷ hs) = (is_among h.handle hs ≡ false) × Once hs

-- a handle from 1 to n
abbrev pub Within : ℕ → Hook → Type 0
Within n h = (0 < h.handle) × (h.handle ≤ n)

-- taking a hook out, by cases on whether it is the first
without_cases : (P : List Hook → Type 0) (k : ℕ) (h : Hook) (hs : List Hook) → (eqb h.handle k ≡ true → P hs)
    → (eqb h.handle k ≡ false → P (h ∷ without k hs)) → P (without k (h ∷ hs))
unfolding without
without_cases P k h hs f g = by (eqb h.handle k) refl
  where
    by : (b : Bool) → eqb h.handle k ≡ b → P (cond b hs (h ∷ without k hs))
    by true e = f e
    by false e = g e

-- it takes one at most
without_length : (k : ℕ) (hs : List Hook) → length hs ≤ suc (length (without k hs))
unfolding without
without_length k [] = omega arith
without_length k (h ∷ hs) =
    without_cases (λ m. suc (length hs) ≤ suc (length m)) k h hs (λ e. omega arith) (λ e. omega (arith, without_length k hs))

-- what is not among them is not among fewer
without_among : (j k : ℕ) (hs : List Hook) → is_among j hs ≡ false → is_among j (without k hs) ≡ false
unfolding is_among without
without_among j k [] e = refl
without_among j k (h ∷ hs) e =
    let s = either_false (eqb h.handle j) _ e in
    without_cases (λ m. is_among j m ≡ false) k h hs (λ p. s.1) (λ p. rw s.0 (without_among j k hs s.1))

pub without_once : (k : ℕ) (hs : List Hook) → Once hs → Once (without k hs)
unfolding without
without_once k [] o = tt
without_once k (h ∷ hs) o =
    without_cases Once k h hs (λ e. o.1) (λ e. (without_among h.handle k hs o.0, without_once k hs o.1))

-- none of n + 1 is left once it is taken out
not_among : (n : ℕ) (hs : List Hook) → is_among (suc n) hs ≡ false → EveryHook (Within (suc n)) hs → EveryHook (Within n) hs
unfolding is_among
not_among n [] e a = tt
not_among n (h ∷ hs) e a =
    let s = either_false (eqb h.handle (suc n)) _ e in
    let d : h.handle ≡ suc n → ⊥ = eqb-false h.handle (suc n) s.0 in
    ((a.0.0, omega (arith, a.0.1)), not_among n hs s.1 a.1)

without_within : (n : ℕ) (hs : List Hook) → Once hs → EveryHook (Within (suc n)) hs → EveryHook (Within n) (without (suc n) hs)
unfolding without
without_within n [] o a = tt
without_within n (h ∷ hs) o a =
    without_cases (EveryHook (Within n)) (suc n) h hs
    (λ e. not_among n hs (rw (eqb-true h.handle (suc n) e) at o.0) a.1)
    (λ e.
    let d : h.handle ≡ suc n → ⊥ = eqb-false h.handle (suc n) e in
    ((a.0.0, omega (arith, a.0.1)), without_within n hs o.1 a.1))

-- hooks of n functions, each hooked once, are n at most
pub once_few : (n : ℕ) (hs : List Hook) → Once hs → EveryHook (Within n) hs → length hs ≤ n
once_few zero [] o a = omega arith
once_few zero (h ∷ hs) o a = absurd (omega (arith, a.0.0, a.0.1))
once_few (suc n) hs o a =
    omega (arith, without_length (suc n) hs, once_few n (without (suc n) hs) (without_once (suc n) hs o) (without_within n hs o a))

-- and where one of them is not hooked, fewer
pub free_room : (n : ℕ) (hs : List Hook) (handle : ℕ) → Once hs → EveryHook (Within n) hs → 0 < handle → handle ≤ n → is_among handle hs ≡ false → length hs < n
free_room n hs handle o a l h e = once_few n (hook handle 0 0 ∷ hs) (e, o) ((l, h), a)
