-- Which window data goes through: what finding it in a list means, over what the list means.
use Prim.Native.Nat.{ℕ, ◌-◌}
use mathlib.Core.Bool.{Bool, true, false, false≢true}
use mathlib.Core.List.{List}
use mathlib.Core.Path.{◌≡◌, refl, sym, ap, ◌∙◌}
use lib.Dec.{ltb}
use lib.ListN.{length}
use borrow.Author.Tests.{ltb-true, ltb-false, lt-ltb, le-ltb}
use Rattle.window.specs.Window.{Window, end}
use Rattle.window_list.proofs.Meaning.{list_means}
use Rattle.data_window.specs.Find.{Finding, offers}
use Rattle.std.specs.Prelude.{Ok, Err}
use Rattle.data_window.specs.Meaning.{Asked, Given}
use Rattle.data_window.specs.declared.refusal.DataRefusal.TheVariants.{UnknownEdition, BadHandle, ShortCells, NotAligned, Nothing, Contested, WidthMissing, PastBuffer}
use Rattle.data_window.proofs.Meaning.{find_means}
use Rattle.cell_layout.specs.Cells.{total}
use Rattle.reference.specs.Reference.{Reference, entry_field, exponent_of, is_handle_of, windows_of, find_for}
use Rattle.reference.specs.FoundWindow.{Ready, Holder, Condition, FoundExactly}
use Rattle.reference.proofs.Holders.{First, first, none_open}

module _ (b : Reference) (w space handle address : ℕ) where
  abbrev k : ℕ → ℕ → ℕ
  k = exponent_of b.records

  abbrev l : List Window
  l = windows_of b

  abbrev Has : Window → Type 0
  Has = Holder b w space handle address

  abbrev IsFirst : Window → Type 0
  IsFirst = First b w space handle address

  abbrev offered : ℕ → Bool
  offered base = offers w (entry_field b.records (handle - 1) base 2)

  abbrev short : Bool
  short = ltb (length b.cells) (total k)

  ready : Asked (is_handle_of b handle) short w address → Ready b w space handle address
  ready a = record { good_handle = a.good_handle; enough_cells = ltb-false (length b.cells) (total k) a.enough_cells; multiple = a.multiple }

  asked : Ready b w space handle address → Asked (is_handle_of b handle) short w address
  asked r = record { good_handle = r.good_handle; enough_cells = le-ltb (length b.cells) (total k) r.enough_cells; multiple = r.multiple }

  abbrev Met : Finding → Type 0
  Met = Given (is_handle_of b handle) short offered l space w handle address

  -- what is found is found on its condition
  given : (f : Finding) → Met f → Condition b w space handle address f
  given (Err UnknownEdition) g = g
  given (Err BadHandle) g = g
  given (Err ShortCells) g = (g.0, ltb-true (length b.cells) (total k) g.1)
  given (Err NotAligned) g = (g.0, ltb-false (length b.cells) (total k) g.1, g.2)
  given (Err Nothing) g = (ready g.0, none_open b w space handle address g.1)
  given (Err Contested) g =
      let f = first b w space handle address g.0 g.1.first in (ready g.1.asked, g.0, f.has, f.marked g.2)
  given (Err WidthMissing) g =
      let f = first b w space handle address g.0 g.1.first in
      (ready g.1.asked, g.0, f.has, f.clear g.2, (λ o. false≢true (sym g.3 ∙ o)))
  given (Err PastBuffer) g = g
  given (Ok found) g =
      let f = first b w space handle address g.0 g.1.first in
      (ready g.1.asked, g.0, f.has, f.clear g.2, g.3, g.4, g.5, g.6)

  abbrev finding : Finding
  finding = find_for b w space handle address

  -- with an open window that holds the address a first one of the list is reached: it is contested, lacks the width, or is found
  reach : {X : Type 0} → Ready b w space handle address → (v : Window) → Has v
      → ((u : Window) → IsFirst u → u.contested ≡ true → finding ≡ Err Contested → X)
      → ((u : Window) → IsFirst u → u.contested ≡ false → offered u.base ≡ false → finding ≡ Err WidthMissing → X)
      → ((u : Window) → IsFirst u → u.contested ≡ false → offered u.base ≡ true
      → finding ≡ Ok (record { base = u.base; distance = address - u.start; remaining = end u - address }) → X)
      → X
  reach {X} r v h contested missing found = by finding refl ((find_means (is_handle_of b handle) short offered l space w handle address finding).0 refl)
    where
      by : (f : Finding) → finding ≡ f → Met f → X
      by (Err UnknownEdition) e g = absurd g
      by (Err BadHandle) e g = absurd (false≢true (sym g ∙ r.good_handle))
      by (Err ShortCells) e g = absurd (false≢true (sym (le-ltb (length b.cells) (total k) r.enough_cells) ∙ g.1))
      by (Err NotAligned) e g = absurd (g.2 r.multiple)
      by (Err Nothing) e g = absurd (none_open b w space handle address g.1 v h)
      by (Err Contested) e g = contested g.0 (first b w space handle address g.0 g.1.first) g.2 e
      by (Err WidthMissing) e g = missing g.0 (first b w space handle address g.0 g.1.first) g.2 g.3 e
      by (Err PastBuffer) e g = absurd g
      by (Ok f) e g = found g.0 (first b w space handle address g.0 g.1.first) g.2 g.3 (e ∙ rw (g.4, g.5, g.6))

  -- and on its condition it is found
  found_on : (f : Finding) → Condition b w space handle address f → finding ≡ f
  found_on (Err UnknownEdition) c = absurd c
  found_on (Err BadHandle) c = (find_means (is_handle_of b handle) short offered l space w handle address (Err BadHandle)).1 c
  found_on (Err ShortCells) c =
      (find_means (is_handle_of b handle) short offered l space w handle address (Err ShortCells)).1 (c.0, lt-ltb (length b.cells) (total k) c.1)
  found_on (Err NotAligned) c =
      (find_means (is_handle_of b handle) short offered l space w handle address (Err NotAligned)).1 (c.0, le-ltb (length b.cells) (total k) c.1, c.2)
  found_on (Err Nothing) c =
      (find_means (is_handle_of b handle) short offered l space w handle address (Err Nothing)).1
      (asked c.0, (λ v i h. c.1 v (record { opened = (((list_means (length b.records) k b.registers).listed v).0 i).0; holds = h })))
  found_on (Err Contested) c =
      reach c.0 c.1 c.2 (λ u f t e. e)
      (λ u f t o e. absurd (f.clear t (f.also c.1 c.2 c.3)))
      (λ u f t o e. absurd (f.clear t (f.also c.1 c.2 c.3)))
  found_on (Err WidthMissing) c =
      reach c.0 c.1 c.2 (λ u f t e. absurd (f.never c.1 c.2 c.3 (f.marked t))) (λ u f t o e. e)
      (λ u f t o e. absurd (c.4 (rw (f.base c.1 c.2 c.3) at o)))
  found_on (Err PastBuffer) c = absurd c
  found_on (Ok g) c =
      reach c.0 c.1 c.2 (λ u f t e. absurd (f.never c.1 c.2 c.3 (f.marked t)))
      (λ u f t o e. absurd (false≢true (sym (rw (f.base c.1 c.2 c.3) at o) ∙ c.4)))
      (λ u f t o e.
      let s = f.window c.1 c.2 c.3 in
      let at_base : u.base ≡ g.base = ap (λ (x : Window). x.base) s ∙ sym c.5 in
      let from_start : address - u.start ≡ g.distance = ap (λ (x : Window). address - x.start) s ∙ sym c.6 in
      let to_end : end u - address ≡ g.remaining = ap (λ (x : Window). end x - address) s ∙ sym c.7 in
      e ∙ rw (at_base, from_start, to_end))

pub found_exactly : FoundExactly
found_exactly b w space handle address f = (
  λ e. given b w space handle address f ((find_means (is_handle_of b handle) (short b w space handle address) (offered b w space handle address) (windows_of b) space w handle address f).0 e),
  found_on b w space handle address f,
)
