-- Which window data goes through, in document 01's words: "Numbers handed back", Data, each finding
-- exactly on its condition. A statement alone, proved in proofs/FoundWindow.antt; it joins what
-- finding a window in a list means (crate data_window) with what the list means (window_list), so
-- that it speaks of open windows and of no list.
use Rattle.std.specs.Prelude.{ℕ, ◌-◌, ◌%◌, ◌<◌, ◌≤◌, true, false, ◌↔◌, ◌≡◌, length, Ok, Err}
use Rattle.window.specs.Window.{Window, end}
use Rattle.window_list.specs.Meaning.{OpenAt, Contested as ContestedBy}
use Rattle.data_window.specs.Find.{Finding, offers}
use Rattle.data_window.specs.Meaning.{HeldBy}
use Rattle.data_window.specs.declared.refusal.DataRefusal.TheVariants.{
  UnknownEdition,
  BadHandle,
  ShortCells,
  NotAligned,
  Nothing,
  Contested,
  WidthMissing,
  PastBuffer,
}
use Rattle.cell_layout.specs.Cells.{total}
use Rattle.reference.specs.Reference.{
  Reference,
  entry_field,
  exponent_of,
  is_handle_of,
  find_for,
}

module _ (b : Reference) (w space handle address : ℕ) where
  -- the cells that the board needs
  abbrev pub needed : ℕ
  needed = total (exponent_of b.records)

  -- the checks that need no window pass
  pub record Ready : Type 0 where
    pub good_handle : is_handle_of b handle ≡ true
    pub enough_cells : needed ≤ length b.cells
    pub multiple : address % w ≡ 0

  -- an open window of this function in that space that holds the address
  pub record Holder (v : Window) : Type 0 where
    pub opened : OpenAt (length b.records) (exponent_of b.records) b.registers v
    pub holds : HeldBy space handle address v

  -- another open window shares an address with it
  abbrev pub IsContested : Window → Type 0
  IsContested v = ContestedBy (length b.records) (exponent_of b.records) b.registers v

  -- it offers the width
  abbrev pub Offers : Window → Type 0
  Offers v = offers w (entry_field b.records (handle - 1) v.base 2) ≡ true

  -- the condition of each finding: its own check fails and none before it does, or none fails; the
  -- address is one of the bus, so that no edition is asked here
  abbrev pub Condition : Finding → Type 0
  Condition (Err UnknownEdition) = ⊥
  Condition (Err BadHandle) = is_handle_of b handle ≡ false
  Condition (Err ShortCells) = (is_handle_of b handle ≡ true) × (length b.cells < needed)
  Condition (Err NotAligned) =
      (is_handle_of b handle ≡ true) × (needed ≤ length b.cells) × (address % w ≡ 0 → ⊥)
  Condition (Err Nothing) = Ready × ((v : Window) → Holder v → ⊥)
  Condition (Err Contested) = Ready × (v : Window) × Holder v × IsContested v
  Condition (Err WidthMissing) =
      Ready × (v : Window) × Holder v × (IsContested v → ⊥) × (Offers v → ⊥)
  Condition (Err PastBuffer) = ⊥
  Condition (Ok f) =
      Ready × (v : Window) × Holder v × (IsContested v → ⊥) × Offers v
      × (f.base ≡ v.base) × (f.distance ≡ address - v.start) × (f.remaining ≡ end v - address)

-- DATA GOES THROUGH A WINDOW, or is refused, exactly so
abbrev pub FoundExactly : Type 0
FoundExactly =
    (b : Reference) (w space handle address : ℕ) (f : Finding)
    → (find_for b w space handle address ≡ f) ↔ Condition b w space handle address f
