-- A walk through descriptor bytes: document 01, "Descriptors", last sentence. The bytes may be
-- anyone's. A walk through any of them ends, as each step passes 20 bytes or more.
use Rattle.std.specs.Prelude.{ℕ, zero, suc, ◌+◌, Bool, cond, not, ◌&&◌, List, [], ◌∷◌, leb, length, Option, Some, None, ◌≡◌}
use Rattle.resource_descriptor.specs.declared.descriptor.Descriptor.{Descriptor}
use Rattle.resource_walk.specs.declared.step.Step.{Step}
use Rattle.resource_descriptor.specs.Descriptor.{size, descriptor_at, is_last}

-- a descriptor leads on unless it has the last mark or a next field below 20
abbrev pub leads_on : Descriptor → Bool
leads_on d = not (is_last d) && leb size d.next

-- the position after a descriptor at a position of n bytes: by its next field, or the end
abbrev pub following : ℕ → ℕ → Descriptor → ℕ
following n at d = cond (leads_on d) (at + d.next) n

-- a descriptor, and the position after it
abbrev pub step : Descriptor → ℕ → Step
step d next = record { descriptor = d; following = next }

-- the step at a position: none where 20 bytes do not remain
abbrev pub step_at : List ℕ → ℕ → Option Step
step_at bytes at =
    cond (leb (at + size) (length bytes))
    (Some (step (descriptor_at bytes at) (following (length bytes) at (descriptor_at bytes at))))
    None

-- where a walk stands after a step
abbrev pub position : ℕ → Option Step → ℕ
position at (Some s) = s.following
position at None = at

-- what a step hands back, and what more follows from the position after it
abbrev pub handed : Option Step → (ℕ → List Descriptor) → List Descriptor
handed (Some s) more = s.descriptor ∷ more s.following
handed None more = []

-- the descriptors that one step after the other hands back, of so many steps at most
unfoldable pub walk_for : ℕ → List ℕ → ℕ → List Descriptor
walk_for zero bytes at = []
walk_for (suc n) bytes at = handed (step_at bytes at) (λ next. walk_for n bytes next)

-- of all steps: no walk has more steps than bytes
abbrev pub walk : List ℕ → ℕ → List Descriptor
walk bytes at = walk_for (length bytes) bytes at

-- where a walk stands after n steps from a position
unfoldable pub stands : ℕ → List ℕ → ℕ → ℕ
stands zero bytes at = at
stands (suc n) bytes at = stands n bytes (position at (step_at bytes at))
