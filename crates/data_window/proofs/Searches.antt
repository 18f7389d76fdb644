-- A turn of the search through the kept list, at position j.
use Rattle.std.proofs.Common.{◌≡◌, ℕ, ◌+◌, ◌<◌, ◌≤◌, Bool, true, false, eqb, ltb, leb, List, length, get_or, drop, ltb-true, eqb-true, leb-true, Err}
use Rattle.board.specs.Layout.{bases}
use Rattle.numbers.proofs.Tests.{both_true}
use Rattle.window.specs.Kept.{unpack, is_end, unpacked}
use Rattle.window.specs.Window.{Window, end}
use Rattle.window.proofs.Unpacked.{unpacked_none, unpacked_one, unpacked_end}
use Rattle.data_window.specs.declared.refusal.DataRefusal.TheVariants.{Nothing}
use Rattle.data_window.specs.Find.{holds, checked_window, in_list}

module _ (offered : ℕ → Bool) (space handle address : ℕ) (l : List ℕ) (j : ℕ) where
  -- the list ends there, one that holds the address, another window; or there is none
  pub list_none : j < length l → is_end (get_or l j 0) ≡ true → in_list offered space handle address (unpacked (drop j l)) ≡ Err Nothing
  unfolding in_list
  list_none h z = rw (unpacked_none l j h z)

  pub list_here : j < length l → is_end (get_or l j 0) ≡ false → holds space handle address (unpack (get_or l j 0)) ≡ true
      → in_list offered space handle address (unpacked (drop j l)) ≡ checked_window offered address (unpack (get_or l j 0))
  unfolding in_list
  list_here h n t = rw (unpacked_one l j h n, t)

  pub list_on : j < length l → is_end (get_or l j 0) ≡ false → holds space handle address (unpack (get_or l j 0)) ≡ false
      → in_list offered space handle address (unpacked (drop j l)) ≡ in_list offered space handle address (unpacked (drop (j + 1) l))
  unfolding in_list
  list_on h n t = rw (unpacked_one l j h n, t)

  pub list_end : length l ≤ j → in_list offered space handle address (unpacked (drop j l)) ≡ Err Nothing
  unfolding in_list
  list_end h = rw (unpacked_end l j h)

-- what a window that holds an address of a handle has
pub record Held (handle address : ℕ) (v : Window) : Type 0 where
  pub own : v.handle ≡ handle
  pub six : v.base < bases
  pub from : v.start ≤ address
  pub to : address < end v

pub held : (space handle address : ℕ) (v : Window) → holds space handle address v ≡ true → Held handle address v
held space handle address v h =
    let own = both_true (eqb v.handle handle) _ (both_true (eqb v.space space) _ h).1 in
    let six = both_true (ltb v.base bases) _ own.1 in
    let inside = both_true (leb v.start address) (ltb address (end v)) six.1 in
    record {
      own = eqb-true v.handle handle own.0;
      six = ltb-true v.base bases six.0;
      from = leb-true v.start address inside.0;
      to = ltb-true address (end v) inside.1;
    }
