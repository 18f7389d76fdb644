-- `write_data`: the cells of the target are in the buffer.
use Rattle.std.proofs.Common.{sym, ◌∙◌}
use Rattle.data_cells.proofs.Inside.{target_inside}
use Rattle.data_access.proofs.data.write_data.Goals as goal

pub put_value-requires : goal.put_value-requires
put_value-requires c = target_inside _ _ _ _ _ c.in_ok-target.target (sym c.cell_target.ensures ∙ c.in_ok-target.was)
