-- A turn of the loop that stores the offsets of cells.
use Prim.Native.Nat.{ℕ, ◌+◌, ◌*◌, ◌<◌, ◌≤◌}
use native.Mathlib.Omega.{arith}
use native.Mathlib.Numerals.{add-one}
use mathlib.Core.Path.{◌≡◌, refl}
use mathlib.Core.List.{List}
use lib.ListN.{length, take, set, length-set}
use Rattle.numbers.specs.Tables.{table_from, table}
use Rattle.board.specs.Layout.{windows_max}
use Rattle.numbers.proofs.Tables.{filled_more, filled_all}
use Rattle.cell_layout.specs.Cells.{slot_cells, cells_before, offsets_of}

-- the offsets of the first s slots stand in their array, and t is where the next begins
pub record Placed (k : ℕ → ℕ → ℕ) (s t : ℕ) (l : List ℕ) : Type 0 where
  pub few : s ≤ windows_max
  pub size : length l ≡ windows_max + 1
  pub next : t ≡ cells_before k s
  pub bound : t ≤ 65536 * s
  pub stands : take s l ≡ table s (cells_before k)

pub placed_none : (k : ℕ → ℕ → ℕ) (l : List ℕ) → length l ≡ windows_max + 1 → Placed k 0 0 l
unfolding cells_before table_from
placed_none k l h = record { few = omega arith; size = h; next = refl; bound = omega arith; stands = refl }

pub placed_more : (k : ℕ → ℕ → ℕ) (s t n : ℕ) (l : List ℕ) → s < windows_max → Placed k s t l → n ≡ slot_cells k s → n ≤ 65536
    → Placed k (s + 1) (t + n) (set l s t)
unfolding cells_before
placed_more k s t n l h p e b =
    record {
      few = omega arith;
      size = simp length-set p.size;
      next = rw (add-one s, p.next, e);
      bound = omega (arith, p.bound);
      stands = filled_more (cells_before k) s t l (omega (arith, p.size)) p.next p.stands;
    }

pub placed_all : (k : ℕ → ℕ → ℕ) (s t : ℕ) (l : List ℕ) → windows_max ≤ s → Placed k s t l → set l windows_max t ≡ offsets_of k
placed_all k s t l h p =
    let e : s ≡ windows_max = omega (arith, p.few) in
    filled_all (cells_before k) (windows_max + 1) (set l windows_max t) (simp length-set (omega (arith, p.size)))
    (filled_more (cells_before k) windows_max t l (omega (arith, p.size)) (rw e at p.next) (rw e at p.stands))
