-- The window list of document 01, "Windows", as the lent array keeps it: a number a window, zeros
-- after the last.
use Rattle.std.specs.Prelude.{ℕ, ◌-◌, List, ◌++◌, map, length, replicate}
use Rattle.board.specs.Layout.{windows_max}
use Rattle.window.specs.Window.{Window}
use Rattle.window.specs.Kept.{pack}

unfoldable pub kept_list : List Window → List ℕ
kept_list l = map pack l ++ replicate (windows_max - length l) 0
