-- `list_chain`: the line is tested, then the chain is walked.
use Rattle.std.proofs.Common.{arith, le-ltb}
use Rattle.interrupt_array.specs.Hooks.{last_line}
use Rattle.interrupt_list.proofs.Listings.{lists}
use Rattle.interrupt_list.proofs.listing.list_chain.Goals as goal

pub returns : goal.returns
returns c = lists _ _ _ _ (rw (le-ltb last_line c.args.line (omega arith)) c.listed_hook.ensures)
