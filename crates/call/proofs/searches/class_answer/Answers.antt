-- `class_answer`: the handle that is found is small.
use Rattle.board.specs.Layout.{register_byte}
use Rattle.call.proofs.Found.{class_small}
use Rattle.call.proofs.searches.class_answer.Goals as goal

pub of_search-requires : goal.of_search-requires
of_search-requires c =
    class_small c.args.header.now c.args.class (register_byte c.args.registers.now) _ _ c.find_pci_classcode.ensures
