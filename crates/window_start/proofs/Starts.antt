-- Laws of a shown start: turns of the search through the kept list at position j, and its 32 bits.
use Prim.Native.Nat.{ℕ, ◌+◌, ◌^◌, ◌<◌, ◌≤◌}
use native.Mathlib.Omega.{arith}
use mathlib.Core.Bool.{Bool, true, false, cond}
use mathlib.Core.List.{List, [], ◌∷◌}
use mathlib.Core.Path.{◌≡◌}
use lib.ListN.{length, get_or, drop}
use Rattle.window.specs.Kept.{unpack, is_end, unpacked}
use Rattle.window.proofs.Unpacked.{unpacked_none, unpacked_one, unpacked_end}
use Rattle.window_start.specs.Start.{is_of, shown_start, start_in}

module _ (handle b : ℕ) (l : List ℕ) (j : ℕ) where
  -- the list ends there, the window of the base register, another window; or there is none
  pub start_none : j < length l → is_end (get_or l j 0) ≡ true → start_in (unpacked (drop j l)) handle b ≡ 0
  unfolding start_in
  start_none h z = rw (unpacked_none l j h z)

  pub start_here : j < length l → is_end (get_or l j 0) ≡ false → is_of handle b (unpack (get_or l j 0)) ≡ true
      → start_in (unpacked (drop j l)) handle b ≡ shown_start (unpack (get_or l j 0))
  unfolding start_in
  start_here h n t = rw (unpacked_one l j h n, t)

  pub start_on : j < length l → is_end (get_or l j 0) ≡ false → is_of handle b (unpack (get_or l j 0)) ≡ false
      → start_in (unpacked (drop j l)) handle b ≡ start_in (unpacked (drop (j + 1) l)) handle b
  unfolding start_in
  start_on h n t = rw (unpacked_one l j h n, t)

  pub start_end : length l ≤ j → start_in (unpacked (drop j l)) handle b ≡ 0
  unfolding start_in
  start_end h = rw (unpacked_end l j h)

-- a start in a kept list has 32 bits
chosen_small : (o c : Bool) (x y : ℕ) → x < 2 ^ 32 → y < 2 ^ 32 → cond o (cond c 0 x) y < 2 ^ 32
chosen_small true true x y h k = omega arith
chosen_small true false x y h k = h
chosen_small false c x y h k = k

pub start_small : (l : List ℕ) (handle b : ℕ) → start_in (unpacked l) handle b < 2 ^ 32
unfolding unpacked start_in
start_small [] handle b = omega arith
start_small (n ∷ l) handle b =
    by (is_end n) (chosen_small (is_of handle b (unpack n)) (unpack n).contested (unpack n).start _ (omega arith) (start_small l handle b))
  where
    by : (z : Bool) → start_in (unpack n ∷ unpacked l) handle b < 2 ^ 32 → start_in (cond z [] (unpack n ∷ unpacked l)) handle b < 2 ^ 32
    by true h = omega arith
    by false h = h
