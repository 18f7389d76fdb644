-- The listing answers for index n of the list, in refusals too.
use Prim.Native.Nat.{ℕ, zero, suc, ◌+◌, ◌≤◌, ◌<◌}
use native.Mathlib.Omega.{arith}
use lib.Dec.{eqb, ltb}
use borrow.Author.Tests.{ltb-false}
use mathlib.Core.Bool.{Bool, true, false, cond}
use mathlib.Core.Path.{◌≡◌, refl, ap, sym, ◌∙◌}
use mathlib.Core.List.{List, [], ◌∷◌}
use lib.ListN.{length, get_or}
use Rattle.std.specs.Prelude.{Result, Ok, Err, Some, None, unwrap_or}
use Rattle.std.specs.List.{position, position_or_len}
use Rattle.std.proofs.lemmas.List.Recursion.{is_position_or_len}
use Rattle.board.specs.declared.address.BusAddress.{BusAddress}
use Rattle.board.specs.Addresses.{bus, bus_number}
use Rattle.board.specs.declared.status.CallRefusal.{CallRefusal}
use Rattle.board.specs.declared.status.CallRefusal.TheVariants.{DeviceNotFound}
use Rattle.window_listing.specs.declared.listing.Listed.{Listed}
use Rattle.window.specs.Window.{Window}
use Rattle.window.specs.Kept.{unpack, is_end, unpacked}
use Rattle.window_listing.specs.Listing.{in_space, listed_space, listed_start, listed_length, found_window, listing, listing_number, listing_values, listed_number, listed_values, Lists}

pub number_is : (l : List Window) (n : ℕ) → listing_number (listing l n) ≡ listed_number l n
unfolding listing listed_number
number_is [] n = refl
number_is (w ∷ l) zero = refl
number_is (w ∷ l) (suc n) = number_is l n

-- what is said of a window of either space
record Said (s : Bool) (a : BusAddress) (n : ℕ) : Type 0 where
  space : listed_space (in_space s a n) ≡ cond s 1 0
  start : listed_start (in_space s a n) ≡ bus_number a
  length : listed_length (in_space s a n) ≡ n

said : (s : Bool) (a : BusAddress) (n : ℕ) → Said s a n
said true a n = record { space = refl; start = refl; length = refl }
said false a n = record { space = refl; start = refl; length = refl }

pub values_are : (l : List Window) (n : ℕ) → listing_values (listing l n) ≡ listed_values l n
unfolding listing listed_values
values_are [] n = refl
values_are (w ∷ l) zero = let s = said (eqb w.space 1) (bus w.start) w.length in rw (s.space, s.start, s.length)
values_are (w ∷ l) (suc n) = values_are l n

lists : (l : List Window) (n : ℕ) (r : Result Listed CallRefusal) → r ≡ listing l n → Lists l n r
lists l n r e = record { answer = e; number = ap listing_number e ∙ number_is l n; values = ap listing_values e ∙ values_are l n }

past : (l : List Window) (n : ℕ) → length l ≤ n → Err DeviceNotFound ≡ listing l n
unfolding listing
past [] n h = refl
past (w ∷ l) zero h = absurd (omega arith)
past (w ∷ l) (suc n) h = past l n (omega arith)

-- past the end
pub lists_past : (l : List Window) (n : ℕ) → length l ≤ n → Lists l n (Err DeviceNotFound)
lists_past l n h = lists l n (Err DeviceNotFound) (past l n h)

at : (l : List ℕ) (n : ℕ) → n < length (unpacked l) → Ok (found_window (unpack (get_or l n 0))) ≡ listing (unpacked l) n
unfolding unpacked listing
at [] n h = absurd (omega arith)
at (w ∷ l) n h = by (is_end w) n h (at l)
  where
    by : (b : Bool) (n : ℕ) → n < length (cond b [] (unpack w ∷ unpacked l))
        → ((m : ℕ) → m < length (unpacked l) → Ok (found_window (unpack (get_or l m 0))) ≡ listing (unpacked l) m)
        → Ok (found_window (unpack (get_or (w ∷ l) n 0))) ≡ listing (cond b [] (unpack w ∷ unpacked l)) n
    by true n h ih = absurd (omega arith)
    by false zero h ih = refl
    by false (suc n) h ih = ih n (omega arith)

-- the number at position n says window n
pub lists_at : (l : List ℕ) (n : ℕ) (w : Listed) → n < length (unpacked l) → w ≡ found_window (unpack (get_or l n 0)) → Lists (unpacked l) n (Ok w)
lists_at l n w h e = lists (unpacked l) n (Ok w) (ap Ok e ∙ at l n h)

-- no list has more windows than numbers
pub within : (l : List ℕ) → length (unpacked l) ≤ length l
unfolding unpacked
within [] = omega arith
within (w ∷ l) = by (is_end w) (within l)
  where
    by : (b : Bool) → length (unpacked l) ≤ length l → length (cond b [] (unpack w ∷ unpacked l)) ≤ suc (length l)
    by true h = omega arith
    by false h = omega arith

-- the windows are those before the first number that is none
before_end : (l : List ℕ) → position_or_len is_end l ≡ length (unpacked l)
unfolding unpacked
before_end l = sym (is_position_or_len (λ k. length (unpacked k)) is_end refl by l)
  where
    by : (w : ℕ) (k : List ℕ) → length (unpacked (w ∷ k)) ≡ cond (is_end w) 0 (1 + length (unpacked k))
    by w k = cases (is_end w)
      where
        cases : (b : Bool) → length (cond b [] (unpack w ∷ unpacked k)) ≡ cond b 0 (1 + length (unpacked k))
        cases true = refl
        cases false = omega arith

pub counted : (l : List ℕ) → unwrap_or (position is_end l) (length l) ≡ length (unpacked l)
counted l = rw (before_end l) (by (ltb (length (unpacked l)) (length l)) refl)
  where
    by : (b : Bool) → ltb (length (unpacked l)) (length l) ≡ b → unwrap_or (cond b (Some (length (unpacked l))) None) (length l) ≡ length (unpacked l)
    by true e = refl
    by false e = omega (arith, within l, ltb-false (length (unpacked l)) (length l) e)
