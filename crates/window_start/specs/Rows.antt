-- Rows with literal numbers of document 01, section "Descriptors": the start that is shown.
use Rattle.std.specs.Prelude.{List, [], ◌∷◌, map, ◌≡◌}
use Rattle.window.specs.Window.{Window}
use Rattle.window.specs.Rows.{mem, io, clear, contested}
use Rattle.window_start.specs.Start.{start_in}

-- handle 2 has windows at base registers 0 and 1, and a contested one at 3
abbrev four_windows : List Window
four_windows =
    mem 0x80000000 0x400 1 0 clear
    ∷ mem 0x80000400 0x400 2 0 clear
    ∷ mem 0x80001000 0x400 2 3 contested
    ∷ io 0x00000100 0x10 2 1 clear
    ∷ []

pub record WindowStartRows : Type 0 where
  -- the start of an open window
  pub shown : map (start_in four_windows 2) (0 ∷ 1 ∷ []) ≡ 0x80000400 ∷ 0x00000100 ∷ []
  pub shown_of_other : start_in four_windows 1 0 ≡ 0x80000000
  -- 0 when contested
  pub contested_start : start_in four_windows 2 3 ≡ 0
  -- 0 when closed, though other base registers of the function are open, or that of another
  pub closed_start : map (start_in four_windows 2) (2 ∷ 4 ∷ 5 ∷ []) ≡ 0 ∷ 0 ∷ 0 ∷ []
  pub closed_of_other : map (λ h. start_in four_windows h 1) (0 ∷ 1 ∷ 3 ∷ []) ≡ 0 ∷ 0 ∷ 0 ∷ []
  pub no_window : start_in [] 1 0 ≡ 0
