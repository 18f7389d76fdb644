-- `c_read_data`: what the cells hold, or the refusal.
use Rattle.std.proofs.Common.{sym, ◌∙◌, rules}
use Rattle.board.specs.FromC.{width_from_c, space_from_c}
use Rattle.board.specs.Spaces.{space_number}
use Rattle.data_access.proofs.Known.{inside_lem, read_lem}
use Rattle.data_access.proofs.c_calls.c_read_data.Goals as goal

pub returns-in_err-a : goal.returns-in_err-a
returns-in_err-a c =
    let a = c.args in
    let m = a.map in
    let e = rw (← c.c_access.ensures, c.in_err-a.was) at (read_lem m.header.now m.records.now m.windows.now m.offsets.now (space_number (space_from_c a.io)) a.handle c.in_edition-named.result (width_from_c a.width) a.cells.now) in
    search rules

pub value_at-requires : goal.value_at-requires
value_at-requires c = inside_lem _ _ _ _ _ _ _ (width_from_c c.args.width) _ c.in_ok-a.a (sym c.c_access.ensures ∙ c.in_ok-a.was)
