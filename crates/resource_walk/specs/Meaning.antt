-- What a walk through descriptors means, without the proofs: document 01, "Descriptors".
use Rattle.std.specs.Prelude.{ℕ, ◌-◌, ◌*◌, ◌≤◌, List, ◌≡◌, length, drop, None}
use Rattle.board.specs.Statuses.{successful}
use Rattle.resource_descriptor.specs.Descriptor.{size}
use Rattle.resource.specs.Resource.{descriptors, source_of, get_resource}
use Rattle.resource_walk.specs.Walk.{step_at, handed, walk, stands}

-- a walk from a position: it is its first step and the walk from there; it ends, as each step
-- passes 20 bytes or more; n steps on it has the rest to hand back, and none once it has ended
pub record Walks (bytes : List ℕ) (at : ℕ) : Type 0 where
  pub steps : walk bytes at ≡ handed (step_at bytes at) (walk bytes)
  pub few : size * length (walk bytes at) ≤ length bytes - at
  pub further : (n : ℕ) → walk bytes (stands n bytes at) ≡ drop n (walk bytes at)
  pub ended : step_at bytes at ≡ None → (n : ℕ) → step_at bytes (stands n bytes at) ≡ None

abbrev pub WalkMeans : Type 0
WalkMeans = (bytes : List ℕ) (at : ℕ) → Walks bytes at

-- a walk through what an accepted call wrote hands back the descriptors written, and no other
abbrev pub WalkBack : Type 0
WalkBack =
    (header records registers windows : List ℕ) (handle : ℕ) (out : List ℕ)
    → (get_resource header records registers windows handle out).status ≡ successful
    → walk (get_resource header records registers windows handle out).out 0
    ≡ descriptors (source_of records registers windows handle)
