-- `c_write_data`: what the cells hold then, or the refusal.
use Rattle.std.proofs.Common.{sym, ◌∙◌}
use Rattle.board.specs.FromC.{width_from_c}
use Rattle.data_access.proofs.Known.{inside_lem}
use Rattle.data_access.proofs.c_calls.c_write_data.Goals as goal

pub put_value-requires : goal.put_value-requires
put_value-requires c = inside_lem _ _ _ _ _ _ _ (width_from_c c.args.width) _ c.in_ok-a.a (sym c.c_access.ensures ∙ c.in_ok-a.was)
