-- For claim 4: reference states that differ in the cells of one function's windows alone, and in
-- bytes past the total.
use Prim.Native.Nat.{ℕ, zero, suc, ◌+◌, ◌*◌, ◌-◌, ◌%◌, ◌<◌, ◌≤◌}
use native.Mathlib.Omega.{arith}
use mathlib.Core.Logic.{◌⊎◌, inl, inr}
use mathlib.Core.Path.{◌≡◌, refl, sym, ◌∙◌, ap, subst⁻¹}
use mathlib.Core.List.{List, [], ◌∷◌}
use lib.Dec.{ltb}
use lib.ListN.{length, get_or, set, drop, replicate, length-append, length-replicate, length-drop, length-set, get_or-append}
use lib.Seq.{sets, length-sets}
use borrow.Author.Tests.{ltb-true, ltb-false}
use Rattle.board.specs.Layout.{functions_max, bases, windows_max}
use Rattle.numbers.specs.Numbers.{byte_at, big_bytes}
use Rattle.numbers.proofs.Numbers.{big_same}
use Rattle.data_cells.specs.Cells.{cells_value, cells_after}
use Rattle.data_order.specs.Orders.{ordered}
use Rattle.data_cells.proofs.Cells.{only_its_cells}
use Rattle.cell_layout.specs.Cells.{slot_cells, cells_before, total, zeroed}
use Rattle.cell_layout.proofs.Ranges.{before_apart}
use Rattle.reference.specs.Reference.{Reference, exponent_of, with_cells_of}
use Rattle.reference.proofs.Tests.{if_either}
use Rattle.reference.proofs.InSlot.{InSlot}

-- two cell buffers of a length, equal in the cells of every window that is not of handle h
pub record Others (h : ℕ) (rs : List (List ℕ)) (l m : List ℕ) : Type 0 where
  pub room : length l ≡ length m
  pub same : (i b o : ℕ) → (i + 1 ≡ h → ⊥) → i < length rs → b < bases → o < slot_cells (exponent_of rs) (bases * i + b)
      → get_or l (cells_before (exponent_of rs) (bases * i + b) + o) 0 ≡ get_or m (cells_before (exponent_of rs) (bases * i + b) + o) 0

-- two states that are equal but for such cells; with no more functions than a board has, all windows' cells are below the total
pub record Like (h : ℕ) (b d : Reference) : Type 0 where
  pub few : length b.records ≤ functions_max
  pub rest : d ≡ with_cells_of d.cells b
  pub others : Others h b.records b.cells d.cells

-- what holds of b with other cells, where that is like b, holds of every state like b
pub by_cells : {h : ℕ} {b d : Reference} (P : Reference → Type 0) → Like h b d
    → ((m : List ℕ) → Like h b (with_cells_of m b) → P (with_cells_of m b)) → P d
by_cells {h} {b} {d} P l f = subst⁻¹ P l.rest (f d.cells (record { few = l.few; rest = refl; others = l.others }))

-- alike to one, alike to each other
others_both : {h : ℕ} {rs : List (List ℕ)} {l m n : List ℕ} → Others h rs l n → Others h rs m n → Others h rs l m
others_both p q =
    record { room = p.room ∙ sym q.room; same = λ i b o n f s k. p.same i b o n f s k ∙ sym (q.same i b o n f s k) }

pub like_both : {h : ℕ} {b d e : Reference} → Like h b e → Like h d e → Like h b d
like_both {h} {b} {d} {e} l m =
    let r : d ≡ with_cells_of d.cells b = sym (ap (with_cells_of d.cells) m.rest) ∙ ap (with_cells_of d.cells) l.rest in
    let s : d.records ≡ b.records = ap (λ (a : Reference). a.records) r in
    record { few = l.few; rest = r; others = others_both l.others (rw s at m.others) }

-- the same stores into two lists of a length keep them equal at a position
set_same : (l m : List ℕ) (i v j : ℕ) → length l ≡ length m → get_or l j 0 ≡ get_or m j 0 → get_or (set l i v) j 0 ≡ get_or (set m i v) j 0
set_same [] [] i v j e s = refl
set_same [] (y ∷ m) i v j e s = absurd (omega arith)
set_same (x ∷ l) [] i v j e s = absurd (omega arith)
set_same (x ∷ l) (y ∷ m) zero v zero e s = refl
set_same (x ∷ l) (y ∷ m) zero v (suc j) e s = s
set_same (x ∷ l) (y ∷ m) (suc i) v zero e s = s
set_same (x ∷ l) (y ∷ m) (suc i) v (suc j) e s = set_same l m i v j (omega arith) s

sets_same : (l m : List ℕ) (i : ℕ) (vs : List ℕ) (j : ℕ) → length l ≡ length m → get_or l j 0 ≡ get_or m j 0
    → get_or (sets l i vs) j 0 ≡ get_or (sets m i vs) j 0
sets_same l m i [] j e s = s
sets_same l m i (v ∷ vs) j e s = sets_same (set l i v) (set m i v) (suc i) vs j (simp length-set e) (set_same l m i v j e s)

-- the cells of every window are below the total
below_total : (k : ℕ → ℕ → ℕ) (i b o : ℕ) → i < functions_max → b < bases → o < slot_cells k (bases * i + b)
    → cells_before k (bases * i + b) + o < total k
below_total k i b o f s h = omega (arith, before_apart k (bases * i + b) windows_max (omega arith))

-- a cell of one slot is before or after an access in another
slots_apart : (k : ℕ → ℕ → ℕ) (s t o d w : ℕ) → (s ≡ t → ⊥) → o < slot_cells k s → d + w ≤ slot_cells k t
    → (cells_before k s + o < cells_before k t + d) ⊎ (cells_before k t + d + w ≤ cells_before k s + o)
slots_apart k s t o d w n h f =
    if_either (ltb s t) (λ e. inl (omega (arith, before_apart k s t (ltb-true s t e))))
    (λ e. inr (omega (arith, before_apart k t s (omega (arith, ltb-false s t e)))))

module _ {h : ℕ} (rs : List (List ℕ)) (l m : List ℕ) where
  -- the same write into both
  pub others_written : (order w at value : ℕ) → Others h rs l m → Others h rs (cells_after order w at value l) (cells_after order w at value m)
  others_written order w at value s =
      let vs = big_bytes w (ordered order w value) in
      record {
        room = length-sets l at vs ∙ s.room ∙ sym (length-sets m at vs);
        same = λ i b o n f k u. sets_same l m at vs _ s.room (s.same i b o n f k u);
      }

  -- all windows' cells zeroed in both
  pub others_zeroed : length rs ≤ functions_max → length l ≡ length m → Others h rs (zeroed (total (exponent_of rs)) l) (zeroed (total (exponent_of rs)) m)
  others_zeroed few e =
      let n = total (exponent_of rs) in
      let z = replicate {A = ℕ} n 0 in
      record {
        room = length-append z (drop n l) ∙ rw (length-drop n l, e, ← length-drop n m) (sym (length-append z (drop n m)));
        same = λ i b o u f s k.
            let w : cells_before (exponent_of rs) (bases * i + b) + o < length z = rw length-replicate (below_total (exponent_of rs) i b o (omega arith) s k) in
            get_or-append z (drop n l) 0 _ w ∙ sym (get_or-append z (drop n m) 0 _ w);
      }

module _ {h : ℕ} (b : Reference) (l m : List ℕ) (others : Others h b.records l m) (w handle at order : ℕ) (s : InSlot b w handle at) where
  -- a write through h into the first
  pub others_hidden : (value : ℕ) → handle ≡ h → Others h b.records (cells_after order w at value l) m
  others_hidden value q =
      let kept = only_its_cells order w at value l in
      let t = bases * (handle - 1) + s.base in
      record {
        room = kept.room ∙ others.room;
        same = λ i c o n f k u.
            let apart = slots_apart (exponent_of b.records) (bases * i + c) t o s.distance w (λ e. n (omega (arith, s.low, s.six))) u s.inside in
            kept.same _ (rw s.start apart) ∙ others.same i c o n f k u;
      }

  -- through any other handle both read the same
  cells_same : (handle ≡ h → ⊥) → (j : ℕ) → j < w → get_or l (at + j) 0 ≡ get_or m (at + j) 0
  cells_same n j k =
      let e : at + j ≡ cells_before (exponent_of b.records) (bases * (handle - 1) + s.base) + (s.distance + j) = omega (arith, s.start) in
      rw e
      (others.same (handle - 1) s.base (s.distance + j) (λ q. n (omega (arith, s.low))) (omega (arith, s.low, s.high)) s.six
      (omega (arith, s.inside)))

  pub value_same : (handle ≡ h → ⊥) → cells_value order w at l ≡ cells_value order w at m
  value_same n = ap (ordered order w) (big_same w (byte_at l) (byte_at m) at at (λ j k. ap (λ v. v % 256) (cells_same n j k)))
