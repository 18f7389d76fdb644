-- Turns of the loops through the base registers at b.
use Prim.Native.Nat.{ℕ, zero, suc, ◌+◌, ◌-◌, ◌*◌, ◌<◌, ◌≤◌}
use native.Mathlib.Omega.{arith}
use mathlib.Core.Bool.{Bool, true, false, cond}
use mathlib.Core.List.{List, [], ◌∷◌}
use mathlib.Core.Path.{◌≡◌, refl, sym, ◌∙◌}
use lib.Dec.{eqb}
use lib.ListN.{length}
use lib.Seq.{sets}
use borrow.Author.Tests.{eq-eqb, ne_eqb}
use Rattle.std.specs.List.{filter, range_with_len}
use Rattle.board.specs.Layout.{bases}
use Rattle.resource_descriptor.specs.Descriptor.{size, descriptor_bytes, descriptors_bytes}
use Rattle.window.specs.Window.{is_window}
use Rattle.resource.specs.Resource.{windows_from, Source, descriptor_of, described}
use Rattle.resource_descriptor.proofs.Fields.{after, bytes_size}

module _ (k : ℕ → ℕ) (b : ℕ) where
  -- base register b has a window, or has none; or there is none
  pub windows_one : b < bases → is_window (k b) ≡ true → windows_from k (bases - b) b ≡ b ∷ windows_from k (bases - (b + 1)) (b + 1)
  unfolding windows_from
  windows_one h t = let e : bases - b ≡ suc (bases - (b + 1)) = omega arith in rw (e, t)

  pub windows_none : b < bases → is_window (k b) ≡ false → windows_from k (bases - b) b ≡ windows_from k (bases - (b + 1)) (b + 1)
  unfolding windows_from
  windows_none h t = let e : bases - b ≡ suc (bases - (b + 1)) = omega arith in rw (e, t)

  pub windows_end : bases ≤ b → windows_from k (bases - b) b ≡ []
  unfolding windows_from
  windows_end h = let e : bases - b ≡ 0 = omega arith in rw e

-- those that have a window in std's words
pub windows_filtered : (k : ℕ → ℕ) (n b : ℕ) → windows_from k n b ≡ filter (λ j. is_window (k j)) (range_with_len b n)
unfolding windows_from
windows_filtered k zero b = refl
windows_filtered k (suc n) b = rw (windows_filtered k n (b + 1))

-- of n base registers at most n have a window
pub windows_few : (k : ℕ → ℕ) (n b : ℕ) → length (windows_from k n b) ≤ n
unfolding windows_from
windows_few k zero b = omega arith
windows_few k (suc n) b = by (is_window (k b)) (windows_few k n (b + 1))
  where
    by : (t : Bool) → length (windows_from k n (b + 1)) ≤ n → length (cond t (b ∷ windows_from k n (b + 1)) (windows_from k n (b + 1))) ≤ suc n
    by true h = omega arith
    by false h = omega arith

-- the last of so many windows is the one that none follows
pub last_one : (n m count : ℕ) → n + suc m ≡ count → eqb (n + 1) count ≡ eqb m 0
last_one n zero count e = eq-eqb (n + 1) count (omega arith)
last_one n (suc m) count e = ne_eqb (n + 1) count (λ f. omega arith) ∙ sym (ne_eqb (suc m) 0 (λ f. omega arith))

-- the descriptor of base register b stored, those of the ones after it follow
pub put_more : (s : Source) (out : List ℕ) (n b : ℕ) (l : List ℕ)
    → sets (sets out (size * n) (descriptor_bytes (descriptor_of s (eqb (length l) 0) b))) (size * (n + 1)) (descriptors_bytes (described s l))
    ≡ sets out (size * n) (descriptors_bytes (described s (b ∷ l)))
unfolding described descriptors_bytes
put_more s out n b l =
    let d = descriptor_of s (eqb (length l) 0) b in
    after out (size * n) size (size * (n + 1)) (descriptor_bytes d) (descriptors_bytes (described s l)) (bytes_size d) (omega arith)

pub put_end : (s : Source) (out : List ℕ) (i : ℕ) → sets out i (descriptors_bytes (described s [])) ≡ out
unfolding described descriptors_bytes
put_end s out i = refl
