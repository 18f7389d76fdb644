-- `read_data`: the cells of the target are in the buffer.
use Rattle.std.proofs.Common.{sym, ◌∙◌}
use Rattle.data_cells.proofs.Inside.{target_inside}
use Rattle.data_access.proofs.data.read_data.Goals as goal

pub value_at-requires : goal.value_at-requires
value_at-requires c = target_inside _ _ _ _ _ c.in_ok-target.target (sym c.cell_target.ensures ∙ c.in_ok-target.was)
