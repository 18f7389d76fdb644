-- What the finding of a window means, without the proof, in the words of document 01, "Numbers
-- handed back", Data: -9; -7 cells shorter than the board's total; -8 address not a multiple of the
-- width; -8 no open window of this function in that space holds it; -8 that window is contested;
-- -2. The window is the handle's own, and not any that holds the address ("Traps on this bus").
use Rattle.std.specs.Prelude.{◌≡◌, ℕ, ◌-◌, ◌%◌, ◌<◌, ◌≤◌, Bool, true, false, ◌⊎◌, ◌↔◌, List, ◌∷◌, ◌++◌, ◌≢◌, Ok, Err}
use Rattle.window.specs.Window.{Window, end, In}
use Rattle.data_window.specs.declared.find.Found.{Found}
use Rattle.data_window.specs.declared.refusal.DataRefusal.TheVariants.{
  UnknownEdition,
  BadHandle,
  ShortCells,
  NotAligned,
  Nothing,
  Contested,
  WidthMissing,
  PastBuffer,
}
use Rattle.data_window.specs.Find.{Finding, find, found_window}

-- a window, of one of its six base registers, of this function in that space holds the address
pub record HeldBy (space handle address : ℕ) (v : Window) : Type 0 where
  pub in_space : v.space ≡ space
  pub own : v.handle ≡ handle
  pub six : v.base < 6
  pub from : v.start ≤ address
  pub to : address < end v

-- no window of a list does
abbrev pub NoneHolds : ℕ → ℕ → ℕ → List Window → Type 0
NoneHolds space handle address l = (v : Window) → In v l → HeldBy space handle address v → ⊥

-- the first window of a list that does
pub record FirstHolder (space handle address : ℕ) (l : List Window) (v : Window) : Type 0 where
  pub before : List Window
  pub after : List Window
  pub listed : l ≡ before ++ (v ∷ after)
  pub none : NoneHolds space handle address before
  pub holder : HeldBy space handle address v

-- the checks that need no window pass: a good handle, cells that are not short, an address that is
-- a multiple of the width
pub record Asked (good short : Bool) (w address : ℕ) : Type 0 where
  pub good_handle : good ≡ true
  pub enough_cells : short ≡ false
  pub multiple : address % w ≡ 0

module _ (good short : Bool) (offered : ℕ → Bool) (l : List Window) (space w handle address : ℕ)
  where
    -- they pass, and v is the first window of the list, all of which are open, that holds it
    pub record Reached (v : Window) : Type 0 where
      pub asked : Asked good short w address
      pub first : FirstHolder space handle address l v

    -- the condition of each finding: its own check fails and none before it does; or none fails,
    -- and the window is told with the distance from its start and the bytes that remain to its end.
    -- An edition is tested before, and a cell past the buffer is found later, where the cells are
    -- worked out
    abbrev pub Given : Finding → Type 0
    Given (Err UnknownEdition) = ⊥
    Given (Err BadHandle) = good ≡ false
    Given (Err ShortCells) = (good ≡ true) × (short ≡ true)
    Given (Err NotAligned) = (good ≡ true) × (short ≡ false) × (address % w ≢ 0)
    Given (Err Nothing) = Asked good short w address × NoneHolds space handle address l
    Given (Err Contested) = (v : Window) × Reached v × (v.contested ≡ true)
    Given (Err WidthMissing) =
        (v : Window) × Reached v × (v.contested ≡ false) × (offered v.base ≡ false)
    Given (Err PastBuffer) = ⊥
    Given (Ok f) =
        (v : Window) × Reached v × (v.contested ≡ false) × (offered v.base ≡ true)
        × (f.base ≡ v.base) × (f.distance ≡ address - v.start) × (f.remaining ≡ end v - address)

-- each finding is given exactly on its condition
abbrev pub FindMeans : Type 0
FindMeans =
    (good short : Bool) (offered : ℕ → Bool) (l : List Window) (space w handle address : ℕ)
    (f : Finding)
    → (find good short offered l space w handle address ≡ f)
    ↔ Given good short offered l space w handle address f

-- request E3: each reason is handed on exactly on the condition of its refusal, which is that its
-- own check fails and none before it does; where each finding has a condition
module _ (Met : Finding → Type 0) where
  -- the conditions that have no reason
  abbrev pub Unreasoned : Type 0
  Unreasoned =
      Met (Err UnknownEdition)
      ⊎ (Met (Err BadHandle)
      ⊎ (Met (Err ShortCells)
      ⊎ (Met (Err PastBuffer)
      ⊎ ((f : Found) × Met (Ok f)))))

  pub record ReasonsGiven (reason : ℕ) : Type 0 where
    pub none : (reason ≡ 0) ↔ Unreasoned
    pub not_aligned : (reason ≡ 1) ↔ Met (Err NotAligned)
    pub nothing_there : (reason ≡ 2) ↔ Met (Err Nothing)
    pub contested : (reason ≡ 3) ↔ Met (Err Contested)
    pub width_missing : (reason ≡ 4) ↔ Met (Err WidthMissing)

abbrev pub ReasonsMean : Type 0
ReasonsMean =
    (good short : Bool) (offered : ℕ → Bool) (l : List Window) (space w handle address : ℕ)
    → ReasonsGiven (Given good short offered l space w handle address)
    (found_window (find good short offered l space w handle address)).reason
