-- `cell_target`: the cells for what is found.
use Rattle.board.specs.Spaces.{space_number}
use Rattle.data_cells.proofs.Named.{target_named}
use Rattle.data_cells.proofs.target.cell_target.Goals as goal

pub returns : goal.returns
returns c =
    let a = c.args in
    let m = a.map in
    target_named m.header.now m.records.now m.windows.now m.offsets.now _ _ (space_number a.at.space) _ a.at.address _ _ _
    c.find_named-finding.ensures
    c.place_of_handle-function.ensures
    c.cell_target_of.ensures
