-- What descriptors mean, without the proofs: document 01, "Descriptors".
use Rattle.std.specs.Prelude.{ℕ, suc, ◌*◌, ◌<◌, ◌≤◌, Bool, true, List, ◌↔◌, ◌≡◌, eqb, length, get_or}
use Rattle.board.specs.Layout.{bases}
use Rattle.numbers.specs.Numbers.{byte_at}
use Rattle.board.specs.Statuses.{successful}
use Rattle.resource_descriptor.specs.Descriptor.{size, descriptor_at, is_last}
use Rattle.resource.specs.Resource.{
  Source,
  window_bases,
  descriptor_of,
  resource,
  source_of,
  get_resource,
}

-- of a buffer before and after: the j-th window's base register has its descriptor, all six fields,
-- at 20 j, marked exactly if it is the last; the rest stays
pub record Shows (s : Source) (before after : List ℕ) : Type 0 where
  pub fields : (j : ℕ) → j < length (window_bases s.exponent)
      → descriptor_at after (size * j)
      ≡ descriptor_of s (eqb (suc j) (length (window_bases s.exponent)))
      (get_or (window_bases s.exponent) j 0)
  pub last : (j : ℕ) → j < length (window_bases s.exponent)
      → (is_last (descriptor_at after (size * j)) ≡ true)
      ↔ (suc j ≡ length (window_bases s.exponent))
  pub room : length after ≡ length before
  pub rest : (i : ℕ) → size * length (window_bases s.exponent) ≤ i
      → byte_at after i ≡ byte_at before i

-- what an accepted call leaves
abbrev pub ResourceShows : Type 0
ResourceShows =
    (header records registers windows : List ℕ) (handle : ℕ) (out : List ℕ)
    → (get_resource header records registers windows handle out).status ≡ successful
    → Shows (source_of records registers windows handle) out
    (get_resource header records registers windows handle out).out

-- two functions of equal handle, windows and offsets whose base registers are alike
pub record SameSource (s t : Source) : Type 0 where
  pub handle : s.handle ≡ t.handle
  pub windows : s.windows ≡ t.windows
  pub exponent : (b : ℕ) → b < bases → s.exponent b ≡ t.exponent b
  pub order : (b : ℕ) → b < bases → s.order b ≡ t.order b
  pub widths : (b : ℕ) → b < bases → s.widths b ≡ t.widths b
  pub register : (b : ℕ) → b < bases → s.register b ≡ t.register b
  pub offset : s.offset ≡ t.offset
  pub dma_offset : s.dma_offset ≡ t.dma_offset

-- have equal descriptors: base registers past the six play no part
abbrev pub ResourceDependsOn : Type 0
ResourceDependsOn =
    (good : Bool) (s t : Source) (out : List ℕ) → SameSource s t
    → resource good s out ≡ resource good t out
