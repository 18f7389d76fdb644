-- `find_pci_device`: where nothing refuses, the functions of the device are found.
use Rattle.std.proofs.Common.{rules, sym, ◌∙◌}
use Rattle.board.specs.Layout.{register_byte}
use Rattle.search.specs.Search.{device_matches, sought_at}
use Rattle.search.proofs.Searches.{finds}
use Rattle.search.proofs.search.find_pci_device.Goals as goal

pub returns : goal.returns
unfolding sought_at
returns c =
    let e = c.find.ensures (λ i. device_matches c.id_of-later.result (register_byte c.args.registers.now i)) (λ i b p. search rules) in
    finds _ _ _
    (rw (
      sym c.is_known.ensures ∙ c.if-not-is_known.false,
      sym c.is_bad_vendor.ensures ∙ c.if-is_bad_vendor.false,
      ← c.id_of-later.ensures,
      ← c.function_count.ensures,
    )
    e)
