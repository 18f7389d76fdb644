-- `ask`: each arm by the contract of its call.
use Rattle.std.proofs.Common.{refl, sym}
use Rattle.board.specs.Parts.{parts}
use Rattle.window_listing.specs.Listing.{listing_number, listing_values}
use Rattle.search.proofs.Searches.{sought_number_lem}
use Rattle.interrupt_list.specs.Listing.{chain_number_of, chain_values_of}
use Rattle.call.specs.Answers.{answer, of_status, of_search, of_to_cpu, of_to_bus, of_chain, of_used}
use Rattle.reference.specs.State.{queried}
use Rattle.dispatch.proofs.Arms.{arm_query}
use Rattle.dispatch.proofs.ask.ask.Goals as goal

pub returns-in-FindPciDevice : goal.returns-in-FindPciDevice
unfolding queried
returns-in-FindPciDevice c offsets cells =
    arm_query of_search
    (parts c.args.board.now.header.now c.args.board.now.records.now c.args.board.now.registers.now c.args.board.now.windows.now offsets c.args.board.now.hooks.now c.args.board.now.used.now cells)
    _ _ _ _ _ c.in-FindPciDevice.is c.device_answer.ensures (sym (sought_number_lem _ _)) refl

pub returns-in-FindPciClasscode : goal.returns-in-FindPciClasscode
unfolding queried
returns-in-FindPciClasscode c offsets cells =
    arm_query of_search
    (parts c.args.board.now.header.now c.args.board.now.records.now c.args.board.now.registers.now c.args.board.now.windows.now offsets c.args.board.now.hooks.now c.args.board.now.used.now cells)
    _ _ _ _ _ c.in-FindPciClasscode.is c.class_answer.ensures (sym (sought_number_lem _ _)) refl

pub returns-in-BusToCpu : goal.returns-in-BusToCpu
unfolding queried
returns-in-BusToCpu c offsets cells =
    arm_query of_to_cpu
    (parts c.args.board.now.header.now c.args.board.now.records.now c.args.board.now.registers.now c.args.board.now.windows.now offsets c.args.board.now.hooks.now c.args.board.now.used.now cells)
    _ _ _ _ _ c.in-BusToCpu.is c.of_to_cpu.ensures c.bus_to_cpu.ensures refl

pub returns-in-CpuToBus : goal.returns-in-CpuToBus
unfolding queried
returns-in-CpuToBus c offsets cells =
    arm_query of_to_bus
    (parts c.args.board.now.header.now c.args.board.now.records.now c.args.board.now.registers.now c.args.board.now.windows.now offsets c.args.board.now.hooks.now c.args.board.now.used.now cells)
    _ _ _ _ _ c.in-CpuToBus.is c.of_to_bus.ensures c.cpu_to_bus.ensures refl

pub returns-in-ListChain : goal.returns-in-ListChain
unfolding queried
returns-in-ListChain c offsets cells =
    arm_query (λ l. of_chain (chain_number_of l) (chain_values_of l))
    (parts c.args.board.now.header.now c.args.board.now.records.now c.args.board.now.registers.now c.args.board.now.windows.now offsets c.args.board.now.hooks.now c.args.board.now.used.now cells)
    _ _ _ _ _ c.in-ListChain.is c.of_chain.ensures c.list_chain.ensures.answer refl

pub returns-in-GetCardUsed : goal.returns-in-GetCardUsed
unfolding queried
returns-in-GetCardUsed c offsets cells =
    arm_query of_used
    (parts c.args.board.now.header.now c.args.board.now.records.now c.args.board.now.registers.now c.args.board.now.windows.now offsets c.args.board.now.hooks.now c.args.board.now.used.now cells)
    _ _ _ _ _ c.in-GetCardUsed.is c.of_used.ensures c.get_card_used.ensures refl

pub returns-in-SpecialCycle : goal.returns-in-SpecialCycle
unfolding queried
returns-in-SpecialCycle c offsets cells =
    arm_query of_status
    (parts c.args.board.now.header.now c.args.board.now.records.now c.args.board.now.registers.now c.args.board.now.windows.now offsets c.args.board.now.hooks.now c.args.board.now.used.now cells)
    _ _ _ _ _ c.in-SpecialCycle.is c.of_status.ensures c.special_cycle.ensures refl

pub returns-in-GetRouting : goal.returns-in-GetRouting
unfolding queried
returns-in-GetRouting c offsets cells =
    arm_query of_status
    (parts c.args.board.now.header.now c.args.board.now.records.now c.args.board.now.registers.now c.args.board.now.windows.now offsets c.args.board.now.hooks.now c.args.board.now.used.now cells)
    _ _ _ _ _ c.in-GetRouting.is c.of_status-in-GetRouting.ensures c.get_routing.ensures refl

pub returns-in-SetInterrupt : goal.returns-in-SetInterrupt
unfolding queried
returns-in-SetInterrupt c offsets cells =
    arm_query of_status
    (parts c.args.board.now.header.now c.args.board.now.records.now c.args.board.now.registers.now c.args.board.now.windows.now offsets c.args.board.now.hooks.now c.args.board.now.used.now cells)
    _ _ _ _ _ c.in-SetInterrupt.is c.of_status-in-SetInterrupt.ensures c.set_interrupt.ensures refl

pub returns-in-ListWindow : goal.returns-in-ListWindow
unfolding queried
returns-in-ListWindow c offsets cells =
    arm_query (λ l. answer (listing_number l) (listing_values l))
    (parts c.args.board.now.header.now c.args.board.now.records.now c.args.board.now.registers.now c.args.board.now.windows.now offsets c.args.board.now.hooks.now c.args.board.now.used.now cells)
    _ _ _ _ _ c.in-ListWindow.is c.of_listing.ensures c.list_window.ensures.answer refl
