-- The cells' offsets: each slot's range begins where the one before it ends.
use Prim.Native.Nat.{ℕ, zero, suc, ◌+◌, ◌-◌, ◌/◌, ◌%◌, ◌<◌, ◌≤◌}
use native.Mathlib.Omega.{arith}
use native.Mathlib.Numerals.{add-one}
use mathlib.Core.Path.{◌≡◌, refl, ◌∙◌, ap}
use lib.ListN.{get_or}
use Rattle.board.specs.Layout.{bases, windows_max}
use Rattle.numbers.proofs.Tables.{table_get}
use Rattle.cell_layout.specs.Cells.{slot_cells, cells_before, offsets_of}
use Rattle.cell_layout.specs.Meaning.{CellRanges}

pub offset_at_lem : (k : ℕ → ℕ → ℕ) (s : ℕ) → s ≤ windows_max → get_or (offsets_of k) s 0 ≡ cells_before k s
offset_at_lem k s h = let e : 0 + s ≡ s = omega arith in table_get 0 (windows_max + 1) (cells_before k) s (omega arith) ∙ ap (cells_before k) e

-- only the exponents of the slots before count
pub before_same : (k k' : ℕ → ℕ → ℕ) (s : ℕ) → ((i : ℕ) → i < s → k (i / bases) (i % bases) ≡ k' (i / bases) (i % bases)) → cells_before k s ≡ cells_before k' s
unfolding cells_before
before_same k k' zero e = refl
before_same k k' (suc s) e = rw (before_same k k' s (λ i h. e i (omega arith)), e s (omega arith))

before_none : (k : ℕ → ℕ → ℕ) → cells_before k 0 ≡ 0
unfolding cells_before
before_none k = refl

before_grows : (k : ℕ → ℕ → ℕ) (s d : ℕ) → cells_before k s ≤ cells_before k (s + d)
unfolding cells_before
before_grows k s zero = let e : s + 0 ≡ s = omega arith in rw e (omega arith)
before_grows k s (suc d) = let e : s + suc d ≡ suc (s + d) = omega arith in rw e (omega (arith, before_grows k s d))

-- one slot more
pub before_next : (k : ℕ → ℕ → ℕ) (s : ℕ) → cells_before k (s + 1) ≡ cells_before k s + slot_cells k s
unfolding cells_before
before_next k s = rw add-one

pub before_apart : (k : ℕ → ℕ → ℕ) (s t : ℕ) → s < t → cells_before k s + slot_cells k s ≤ cells_before k t
before_apart k s t h =
    let e : t ≡ s + 1 + (t - (s + 1)) = omega arith in
    rw (← before_next k s, e) (before_grows k (s + 1) (t - (s + 1)))

pub cell_ranges : CellRanges
cell_ranges k =
    record {
      first = offset_at_lem k 0 (omega arith) ∙ before_none k;
      next = λ s h. rw (offset_at_lem k (s + 1) (omega arith), offset_at_lem k s (omega arith)) (before_next k s);
      apart = λ s t h l. rw (offset_at_lem k s (omega arith), offset_at_lem k t l) (before_apart k s t h);
      last = offset_at_lem k windows_max (omega arith);
    }
