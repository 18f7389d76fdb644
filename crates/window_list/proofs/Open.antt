-- The open windows: those of the base registers that are open, no two of one base register, each
-- within its space.
use Prim.Native.Nat.{ℕ, zero, suc, ◌+◌, ◌-◌, ◌*◌, ◌/◌, ◌%◌, ◌^◌, ◌≤◌, ◌<◌}
use native.Mathlib.Nat.{mul-le-mul_right, suc-mul, pow-le-pow_right}
use native.Mathlib.Omega.{arith}
use lib.Pow.{pow_pos, pow-add, shr_lt, split}
use mathlib.Core.Bool.{Bool, true, false, cond, false≢true}
use mathlib.Core.Logic.{◌↔◌, inl, inr, ⊎_elim}
use mathlib.Core.Path.{◌≡◌, refl, ap, sym, ◌∙◌}
use mathlib.Core.List.{List, [], ◌∷◌, ◌++◌}
use Rattle.board.specs.Layout.{command, base_register}
use Rattle.numbers.proofs.Numbers.{little_below}
use Rattle.numbers.proofs.Tests.{both_true}
use Rattle.window.specs.Window.{Window, end, start_of, is_window, is_open, window_of}
use Rattle.window.proofs.Exponents.{window_range}
use Rattle.window_list.specs.Windows.{window_at, gather, open_windows, another, with_mark}
use Rattle.window.specs.Window.{In}
use Rattle.window_list.specs.Meaning.{EveryWindow, OpenAt}
use Rattle.window_list.proofs.Lists.{every_in, in_gather}
use Rattle.window_list.proofs.Order.{Apart, another_by}

-- a window of a kept list: one that fits its fields and ends within its space
pub record Fits (w : Window) : Type 0 where
  pub space : w.space < 2
  pub length_pos : 0 < w.length
  pub length_max : w.length ≤ 65536
  pub ends : end w ≤ 4294967296
  pub handle : w.handle < 32
  pub base : w.base < 8
  pub unmarked : w.contested ≡ false

-- a window ends within its space, 2^32 included
ends_within : (k x : ℕ) → k ≤ 16 → x < 4294967296 → start_of k x + 2 ^ k ≤ 4294967296
ends_within k x small fits =
    let q = x / 2 ^ k in
    let e : (32 - k) + k ≡ 32 = omega arith in
    let lt : q < 2 ^ (32 - k) = shr_lt (32 - k) k (rw e fits) in
    let all : 2 ^ (32 - k) * 2 ^ k ≡ 4294967296 = sym (pow-add 2 (32 - k) k) ∙ ap (λ (n : ℕ). 2 ^ n) e in
    let top : (q * 2 ^ k) + 2 ^ k ≤ 4294967296 = rw (← suc-mul, ← all) (mul-le-mul_right (2 ^ k) lt) in
    omega (arith, split x k, top)

pub window_fits : (k x command h b : ℕ) → x < 4294967296 → h < 32 → b < 8 → is_open k x command ≡ true → Fits (window_of k x h b)
window_fits k x command h b fits hh hb o =
    let small : k ≤ 16 = (window_range k (both_true (is_window k) _ o).0).1 in
    record {
      space = omega arith;
      length_pos = pow_pos k;
      length_max = pow-le-pow_right {n = 2} (omega arith) small;
      ends = omega (arith, ends_within k x small fits);
      handle = hh;
      base = hb;
      unmarked = refl;
    }

apart_append : (l m : List Window) → Apart l → Apart m → ((v w : Window) → In v m → In w l → another v w ≡ true) → Apart (l ++ m)
apart_append [] m a b c = b
apart_append (w ∷ l) m a b c = (every_append l a.0, apart_append l m a.1 b (λ v x i j. c v x i (inr j)))
  where
    every_append : (l : List Window) → EveryWindow (λ v. another v w ≡ true) l → EveryWindow (λ v. another v w ≡ true) (l ++ m)
    every_append [] e = every_in (λ v. another v w ≡ true) m (λ v i. c v w i (inl refl))
    every_append (v ∷ l) e = (e.0, every_append l e.1)

module _ (k r : ℕ → ℕ → ℕ) where
  in_at : (i b : ℕ) (w : Window)
      → In w (window_at k r i b)
      ↔ ((is_open (k i b) (base_register (r i) b) (command (r i)) ≡ true) × (w ≡ window_of (k i b) (base_register (r i) b) (i + 1) b))
  unfolding window_at
  in_at i b w = by (is_open (k i b) (base_register (r i) b) (command (r i))) (window_of (k i b) (base_register (r i) b) (i + 1) b)
    where
      by : (c : Bool) (v : Window) → In w (cond c (v ∷ []) []) ↔ ((c ≡ true) × (w ≡ v))
      by true v = (⊎_elim (λ e. (refl, e)) (λ z. absurd z), λ t. inl t.1)
      by false v = (λ z. absurd z, λ t. false≢true t.0)

  -- the window of slot s: base register s % 6 of function s / 6
  abbrev pub slot : ℕ → List Window
  slot s = window_at k r (s / 6) (s % 6)

  pub fits_slot : (s : ℕ) (w : Window) → s < 96 → In w (slot s) → Fits w
  fits_slot s w h i =
      let t = (in_at (s / 6) (s % 6) w).0 i in
      rw t.1
      (window_fits (k (s / 6) (s % 6)) (base_register (r (s / 6)) (s % 6)) (command (r (s / 6))) (s / 6 + 1) (s % 6)
      (little_below 4 (r (s / 6)) (16 + 4 * (s % 6))) (omega arith) (omega arith) t.0)

  pub slot_code : (s : ℕ) (w : Window) → In w (slot s) → (w.handle ≡ s / 6 + 1) × (w.base ≡ s % 6)
  slot_code s w i =
      let e = ((in_at (s / 6) (s % 6) w).0 i).1 in
      (ap (λ (x : Window). x.handle) e, ap (λ (x : Window). x.base) e)

  -- two slots' windows are of different base registers
  pub slots_differ : (s t : ℕ) (v w : Window) → t < s → In v (slot s) → In w (slot t) → another v w ≡ true
  slots_differ s t v w h i j =
      let a = slot_code s v i in
      let b = slot_code t w j in
      another_by v w (λ e f. omega arith)

  -- w is an open window: that of a base register that is open
  pub in_open : (count : ℕ) (w : Window) → In w (open_windows count k r) → OpenAt count k r w × (with_mark false w ≡ w)
  unfolding open_windows
  in_open count w i =
      let t = (in_gather w slot (6 * count)).0 i in
      let u = (in_at (t.0 / 6) (t.0 % 6) w).0 t.2 in
      let h : t.0 < 6 * count = t.1 in
      let m : with_mark false w ≡ w = rw u.1 in (
        record {
          function = t.0 / 6;
          register = t.0 % 6;
          there = omega arith;
          six = omega arith;
          opened = u.0;
          same = m ∙ u.1;
        },
        m,
      )

  pub open_in : (count : ℕ) (w : Window) → OpenAt count k r w → In (with_mark false w) (open_windows count k r)
  unfolding open_windows
  open_in count w o =
      let s : ℕ = 6 * o.function + o.register in
      let ei : s / 6 ≡ o.function = omega (arith, o.six) in
      let eb : s % 6 ≡ o.register = omega (arith, o.six) in
      (in_gather (with_mark false w) slot (6 * count)).1 (
        s,
        omega (arith, o.there, o.six),
        rw (ei, eb) ((in_at o.function o.register (with_mark false w)).1 (o.opened, o.same)),
      )

  apart_slot : (s : ℕ) → Apart (slot s)
  unfolding window_at
  apart_slot s = by (is_open (k (s / 6) (s % 6)) (base_register (r (s / 6)) (s % 6)) (command (r (s / 6)))) (window_of _ _ _ _)
    where
      by : (c : Bool) (v : Window) → Apart (cond c (v ∷ []) [])
      by true v = (tt, tt)
      by false v = tt

  pub apart_slots : (n : ℕ) → Apart (gather slot n)
  unfolding gather
  apart_slots zero = tt
  apart_slots (suc n) =
      apart_append (gather slot n) (slot n) (apart_slots n) (apart_slot n)
      (λ v w i j. let t = (in_gather w slot n).0 j in slots_differ n t.0 v w t.1 i t.2)
