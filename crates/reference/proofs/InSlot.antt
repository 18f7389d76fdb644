-- For claims 2 and 4: where an accepted access stands, in the cells of one window of its function.
use Prim.Native.Nat.{ℕ, ◌+◌, ◌*◌, ◌-◌, ◌/◌, ◌%◌, ◌^◌, ◌<◌, ◌≤◌}
use native.Mathlib.Omega.{arith}
use native.Mathlib.Nat.{mul_left_comm}
use mathlib.Core.Bool.{true, false≢true}
use mathlib.Core.Path.{◌≡◌, refl, ◌∙◌, ap}
use lib.Dec.{leb}
use lib.ListN.{length}
use lib.Pow.{split}
use borrow.Author.Tests.{leb-true}
use Rattle.board.specs.Layout.{bases, command}
use Rattle.numbers.specs.Numbers.{bytes}
use Rattle.numbers.specs.declared.number.Width.{Width}
use Rattle.numbers.specs.declared.number.Width.TheVariants.{Byte, Word, Long}
use Rattle.numbers.proofs.Numbers.{power_fours}
use Rattle.numbers.proofs.Tests.{both_true}
use Rattle.window.specs.Window.{Window, start_of, is_window, window_length, is_open}
use Rattle.window.proofs.Exponents.{window_range}
use Rattle.window_list.specs.Meaning.{OpenAt}
use Rattle.window_list.proofs.Meaning.{means}
use Rattle.data_order.specs.Orders.{cell_distance}
use Rattle.call_edition.specs.declared.edition.InEdition.{InEdition}
use Rattle.data_window.specs.Find.{Finding}
use Rattle.data_window.specs.declared.find.Found.{Found}
use Rattle.data_cells.specs.declared.target.Cells.{Cells}
use Rattle.std.specs.Prelude.{Ok, Err}
use Rattle.data_window.proofs.Searches.{Held, held}
use Rattle.data_window.proofs.Meaning.{found_means}
use Rattle.data_window.proofs.OnBus.{found_named_lem}
use Rattle.data_order.proofs.Windows.{inside_window}
use Rattle.cell_layout.specs.Cells.{slot_cells, cells_before}
use Rattle.reference.specs.Reference.{Reference, entry_field, exponent_of, windows_of, find_for, find_named_for, cell_target_at, cell_target_for}

-- an accepted access lies in the cells of one window of its function
pub record InSlot (b : Reference) (w handle at : ℕ) : Type 0 where
  pub base : ℕ
  pub distance : ℕ
  pub low : 0 < handle
  pub high : handle ≤ length b.records
  pub six : base < bases
  pub start : at ≡ cells_before (exponent_of b.records) (bases * (handle - 1) + base) + distance
  pub inside : distance + w ≤ slot_cells (exponent_of b.records) (bases * (handle - 1) + base)

-- a window that is found, with the distance of an address in it: in every byte order the cells of the access are among the window's
pub record InWindow (b : Reference) (w handle base distance : ℕ) : Type 0 where
  pub low : 0 < handle
  pub high : handle ≤ length b.records
  pub six : base < bases
  pub inside : (order : ℕ) → cell_distance order w distance + w ≤ slot_cells (exponent_of b.records) (bases * (handle - 1) + base)

-- a window starts at a multiple of 4, so that an aligned address is at an aligned distance from there
aligned : (width : Width) (address m : ℕ) → address % bytes width ≡ 0 → (address - 4 * m) % bytes width ≡ 0
aligned Byte address m h = omega arith
aligned Word address m h = omega arith
aligned Long address m h = omega arith

start_fours : (k x : ℕ) → 2 ≤ k → start_of k x ≡ 4 * (x / 2 ^ k * 2 ^ (k - 2))
start_fours k x h =
    let p : x / 2 ^ k * 2 ^ k ≡ 4 * (x / 2 ^ k * 2 ^ (k - 2)) = ap (λ (n : ℕ). x / 2 ^ k * n) (power_fours k h) ∙ mul_left_comm (x / 2 ^ k) 4 (2 ^ (k - 2)) in
    omega (arith, split x k, p)

-- the cells of base register c of the function at place i
slot_of : (k : ℕ → ℕ → ℕ) (i c : ℕ) → c < bases → slot_cells k (bases * i + c) ≡ window_length (k i c)
slot_of k i c h =
    let q : (bases * i + c) / bases ≡ i = omega arith in
    let m : (bases * i + c) % bases ≡ c = omega arith in
    rw (q, m)

-- an aligned address of an open window
inside_open : (width : Width) (order k x c address : ℕ) → is_open k x c ≡ true → start_of k x ≤ address → address < start_of k x + 2 ^ k
    → address % bytes width ≡ 0 → cell_distance order (bytes width) (address - start_of k x) + bytes width ≤ window_length k
inside_open width order k x c address o l h a =
    let w = (both_true (is_window k) _ o).0 in
    let two = (window_range k w).0 in
    let d : (address - start_of k x) % bytes width ≡ 0 = rw (start_fours k x two) (aligned width address _ a) in
    rw w (inside_window order width k (address - start_of k x) two (omega arith) d)

window_inside : (width : Width) (order count : ℕ) (k r : ℕ → ℕ → ℕ) (v : Window) (handle address : ℕ) → OpenAt count k r v → Held handle address v
    → address % bytes width ≡ 0 → cell_distance order (bytes width) (address - v.start) + bytes width ≤ slot_cells k (bases * (handle - 1) + v.base)
window_inside width order count k r v handle address o h a =
    let i : v.handle ≡ o.function + 1 = ap (λ (u : Window). u.handle) o.same in
    let e : handle - 1 ≡ o.function = omega (arith, h.own) in
    let start : v.start ≡ _ = ap (λ (u : Window). u.start) o.same in
    let size : v.length ≡ _ = ap (λ (u : Window). u.length) o.same in
    rw (e, ap (λ (u : Window). u.base) o.same, slot_of k o.function o.register o.six, start)
    (inside_open width order _ _ (command (r o.function)) address o.opened (omega (arith, h.from)) (omega (arith, h.to)) a)

pub in_window : (b : Reference) (width : Width) (space handle address : ℕ) (g : Found)
    → find_for b (bytes width) space handle address ≡ Ok g → InWindow b (bytes width) handle g.base g.distance
in_window b width space handle address g e =
    let rs = b.records in
    let m = found_means _ _ _ (windows_of b) space (bytes width) handle address g e in
    let good = both_true (leb 1 handle) (leb handle (length rs)) m.0.0 in
    let f = m.1.1 in
    let h = held space handle address f.window f.own in
    let o = (((means (length rs) (exponent_of rs) b.registers).listed f.window).0 f.listed).0 in
    record {
      low = leb-true 1 handle good.0;
      high = leb-true handle (length rs) good.1;
      six = rw f.at_base at h.six;
      inside = λ order.
          rw (f.at_base, ← f.from_start)
          at (window_inside width order (length rs) (exponent_of rs) b.registers f.window handle address o h m.1.0.0);
    }

pub in_slot : (b : Reference) (width : Width) (space handle : ℕ) (address : InEdition) (c : Cells)
    → cell_target_for b (bytes width) space handle address ≡ Ok c → InSlot b (bytes width) handle c.at
unfolding cell_target_at
in_slot b width space handle address c e = by (find_named_for b (bytes width) space handle address) refl e
  where
    by : (f : Finding) → find_named_for b (bytes width) space handle address ≡ f → cell_target_at b (bytes width) handle f ≡ Ok c
        → InSlot b (bytes width) handle c.at
    by (Ok f) g h =
        let w = in_window b width space handle _ f (found_named_lem address _ f g).1 in
        let o = entry_field b.records (handle - 1) f.base 1 in
        record {
          base = f.base;
          distance = cell_distance o (bytes width) f.distance;
          low = w.low;
          high = w.high;
          six = w.six;
          start = cc h;
          inside = w.inside o;
        }
    by (Err r) g h = absurd (false≢true (cc h))
