-- `device_answer`: the handle that is found is small.
use Rattle.board.specs.Layout.{register_byte}
use Rattle.call.proofs.Found.{device_small}
use Rattle.call.proofs.searches.device_answer.Goals as goal

pub of_search-requires : goal.of_search-requires
of_search-requires c =
    device_small c.args.header.now c.args.id (register_byte c.args.registers.now) _ _ c.find_pci_device.ensures
