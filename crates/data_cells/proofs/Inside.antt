-- Where a target is given, the cells of the access are there.
use Prim.Native.Nat.{ℕ, ◌+◌, ◌≤◌}
use mathlib.Core.Bool.{Bool, true, false, cond, true≢false}
use mathlib.Core.Path.{◌≡◌, refl}
use lib.Dec.{ltb}
use borrow.Author.Tests.{ltb-false}
use Rattle.std.specs.Prelude.{Ok, Err}
use Rattle.data_window.specs.Find.{Finding}
use Rattle.data_window.specs.declared.refusal.DataRefusal.TheVariants.{PastBuffer}
use Rattle.data_cells.specs.declared.target.Cells.{Cells}
use Rattle.data_order.specs.Orders.{cell_distance}
use Rattle.data_cells.specs.Cells.{cells_from, cell_target_of}

-- the last test of the cells, turned
cells_inside : (cell order room w : ℕ) (c : Cells) (b : Bool) → ltb room (cell + w) ≡ b
    → cond b (Err PastBuffer) (cells_from cell order) ≡ Ok c → c.at + w ≤ room
cells_inside cell order room w c true t e = absurd (true≢false cc)
cells_inside cell order room w c false t e = let same : cell ≡ c.at = cc in rw same at (ltb-false room (cell + w) t)

pub target_inside : (begins orders : ℕ → ℕ) (room w : ℕ) (f : Finding) (c : Cells) → cell_target_of begins orders room w f ≡ Ok c → c.at + w ≤ room
unfolding cell_target_of
target_inside begins orders room w (Ok f) c e =
    cells_inside (begins f.base + cell_distance (orders f.base) w f.distance) (orders f.base) room w c _ refl e
target_inside begins orders room w (Err r) c e = absurd (true≢false cc)
