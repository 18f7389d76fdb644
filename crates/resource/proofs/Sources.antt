-- What the descriptors of a function depend on.
use Prim.Native.Nat.{ℕ, zero, suc, ◌+◌, ◌<◌, ◌≤◌}
use native.Mathlib.Omega.{arith}
use mathlib.Core.Bool.{Bool, true, false, cond}
use mathlib.Core.List.{◌∷◌}
use mathlib.Core.Path.{◌≡◌, refl}
use Rattle.board.specs.Layout.{bases}
use Rattle.window.specs.Window.{is_window}
use Rattle.resource.specs.Resource.{windows_from, Source, descriptor_of, described, resource}
use Rattle.resource.specs.Meaning.{SameSource, ResourceDependsOn}

module _ (s t : Source) (a : SameSource s t) where
  windows_same : (n b : ℕ) → b + n ≤ bases → windows_from s.exponent n b ≡ windows_from t.exponent n b
  unfolding windows_from
  windows_same zero b h = refl
  windows_same (suc n) b h = rw (a.exponent b (omega arith), windows_same n (b + 1) (omega arith))

  descriptor_same : (last : Bool) (b : ℕ) → b < bases → descriptor_of s last b ≡ descriptor_of t last b
  descriptor_same last b h = rw (a.handle, a.windows, a.exponent b h, a.order b h, a.widths b h, a.register b h, a.offset, a.dma_offset)

  described_same : (n b : ℕ) → b + n ≤ bases → described s (windows_from t.exponent n b) ≡ described t (windows_from t.exponent n b)
  unfolding windows_from described
  described_same zero b h = refl
  described_same (suc n) b h = by (is_window (t.exponent b)) (λ last. descriptor_same last b (omega arith)) (described_same n (b + 1) (omega arith))
    where
      by : (w : Bool) → ((last : Bool) → descriptor_of s last b ≡ descriptor_of t last b)
          → described s (windows_from t.exponent n (b + 1)) ≡ described t (windows_from t.exponent n (b + 1))
          → described s (cond w (b ∷ windows_from t.exponent n (b + 1)) (windows_from t.exponent n (b + 1)))
          ≡ described t (cond w (b ∷ windows_from t.exponent n (b + 1)) (windows_from t.exponent n (b + 1)))
      by true same more = rw (same, more)
      by false same more = more

-- THEOREM: descriptors depend on the six base registers alone
pub resource_depends_on : ResourceDependsOn
unfolding resource
resource_depends_on good s t out a = rw (windows_same s t a bases 0 (omega arith), described_same s t a bases 0 (omega arith))
