-- What the program does: each call by the definition that its contract states, on the lent parts.
-- `perform` of the crate dispatch is proved to do this step, so that the claims, which speak of the
-- step, hold of the program. No rule of document 01 is said here.
use Rattle.std.specs.Prelude.{ℕ, List, length, replicate}
use Rattle.board.specs.Parts.{Parts, with_registers, with_cells, with_hooks, with_used}
use Rattle.board.specs.Handles.{function_count}
use Rattle.board.specs.Layout.{register_byte}
use Rattle.numbers.specs.Numbers.{bytes}
use Rattle.numbers.specs.declared.number.Width.{Width}
use Rattle.call_edition.specs.declared.edition.InEdition.{InEdition}
use Rattle.board.specs.declared.space.Space.{Space}
use Rattle.window.specs.Kept.{unpacked}
use Rattle.window_listing.specs.Listing.{listing, listing_number, listing_values}
use Rattle.config_read.specs.Read.{read_config, fast_read_config}
use Rattle.search.specs.Search.{sought_devices, sought_classes, sought_at, found_number}
use Rattle.config_write.specs.Write.{write_config}
use Rattle.address_convert.specs.Convert.{bus_to_cpu, cpu_to_bus}
use Rattle.data_access.specs.Data.{read_data, fast_read_data, write_data}
use Rattle.board.specs.Spaces.{space_number}
use Rattle.resource.specs.Resource.{get_resource}
use Rattle.interrupt_array.specs.Hooks.{chain_of}
use Rattle.interrupt_hook.specs.Chain.{hook_interrupt, unhook_interrupt}
use Rattle.interrupt_list.specs.Listing.{chain_listing, chain_number_of, chain_values_of}
use Rattle.card_used.specs.Used.{get_card_used, set_card_used}
use Rattle.unsupported.specs.Unsupported.{special_cycle, get_routing, set_interrupt}
use Rattle.reset.specs.Reset.{reset}
use Rattle.load.specs.Load.{load}
use Rattle.image_writer.specs.Write.{write_image}
use Rattle.call.specs.declared.answer.Answer.{Answer}
use Rattle.call.specs.declared.call.Call.{Call}
use Rattle.call.specs.declared.call.Access.{Access}
use Rattle.call.specs.declared.call.Access.TheVariants.{Read, FastRead, Write}
use Rattle.call.specs.declared.call.Call.TheVariants.{
  Load,
  Reset,
  WriteImage,
  Config,
  Data,
  GetResource,
  HookInterrupt,
  UnhookInterrupt,
  SetCardUsed,
  Ask,
}
use Rattle.call.specs.declared.call.Query.{Query}
use Rattle.call.specs.declared.call.Query.TheVariants.{
  FindPciDevice,
  FindPciClasscode,
  BusToCpu,
  CpuToBus,
  ListChain,
  GetCardUsed,
  SpecialCycle,
  GetRouting,
  SetInterrupt,
  ListWindow,
}
use Rattle.call.specs.Answers.{answer, of_status, of_verdict, of_search, of_read, of_fast_read, of_to_cpu, of_to_bus, of_chain, of_used}

-- the answer, the lent parts, and the call's own buffer
pub record Outcome : Type 0 where
  pub answer : Answer
  pub parts : Parts
  pub own : List ℕ

abbrev pub outcome : Answer → Parts → List ℕ → Outcome
outcome a p own = record { answer = a; parts = p; own = own }

-- the lent parts as a query sees them: of the cells how many there are, and no byte
abbrev pub blanked : Parts → Parts
blanked p = with_cells (replicate (length p.cells) 0) p

-- the answer of a call that changes nothing
unfoldable pub queried : Parts → Query → Answer
queried p (FindPciDevice id index) =
    let s = sought_devices id (function_count p.header) (register_byte p.registers) in
    of_search (found_number (sought_at s index))
queried p (FindPciClasscode class index) =
    let s = sought_classes class (function_count p.header) (register_byte p.registers) in
    of_search (found_number (sought_at s index))
queried p (BusToCpu handle address) = of_to_cpu (bus_to_cpu p.header p.records handle address)
queried p (CpuToBus handle address) = of_to_bus (cpu_to_bus p.header p.records handle address)
queried p (ListChain line index) =
    let l = chain_listing (chain_of p.records p.hooks line) line index in
    of_chain (chain_number_of l) (chain_values_of l)
queried p (GetCardUsed handle) = of_used (get_card_used p.header p.used handle)
queried p (SpecialCycle bus message) = of_status (special_cycle bus message)
queried p (GetRouting handle) = of_status (get_routing handle)
queried p (SetInterrupt handle mode) = of_status (set_interrupt handle mode)
queried p (ListWindow n) =
    let l = listing (unpacked p.windows) n in
    answer (listing_number l) (listing_values l)

-- a configuration access leaves registers and the kept list
pub record ConfigOutcome : Type 0 where
  pub answer : Answer
  pub registers : List ℕ
  pub windows : List ℕ

abbrev pub config_outcome : Answer → List ℕ → List ℕ → ConfigOutcome
config_outcome a registers windows = record { answer = a; registers = registers; windows = windows }

abbrev pub config_access : List ℕ → List ℕ → List ℕ → List ℕ → Width → ℕ → ℕ → Access → ConfigOutcome
config_access header records registers windows width handle register Read =
    config_outcome (of_read (read_config (bytes width) header registers handle register))
    registers windows
config_access header records registers windows width handle register FastRead =
    config_outcome (of_fast_read (fast_read_config (bytes width) header registers handle register))
    registers windows
config_access header records registers windows width handle register (Write value) =
    let w = write_config (bytes width) header records registers windows handle register value in
    config_outcome (of_status w.status) w.registers w.windows

-- a data access leaves cells
pub record DataOutcome : Type 0 where
  pub answer : Answer
  pub cells : List ℕ

abbrev pub data_outcome : Answer → List ℕ → DataOutcome
data_outcome a cells = record { answer = a; cells = cells }

abbrev pub data_access : List ℕ → List ℕ → List ℕ → List ℕ → List ℕ
    → Space → Width → ℕ → InEdition → Access → DataOutcome
data_access header records windows offsets cells space width handle address Read =
    data_outcome
    (of_read (read_data (bytes width) header records windows offsets cells
    (space_number space) handle address))
    cells
data_access header records windows offsets cells space width handle address FastRead =
    data_outcome
    (of_fast_read (fast_read_data (bytes width) header records windows offsets cells
    (space_number space) handle address))
    cells
data_access header records windows offsets cells space width handle address (Write value) =
    let w = write_data (bytes width) header records windows offsets cells (space_number space) handle
    address value in
    data_outcome (of_status w.status) w.cells

-- a hook and an unhook leave hooks
abbrev pub hook_on : Parts → ℕ → ℕ → ℕ → List ℕ → Outcome
hook_on p handle handler parameter own =
    let w = hook_interrupt p.header p.records p.hooks handle handler parameter in
    outcome (of_status w.status) (with_hooks w.hooks p) own

abbrev pub unhook_on : Parts → ℕ → List ℕ → Outcome
unhook_on p handle own =
    let w = unhook_interrupt p.header p.hooks handle in
    outcome (of_status w.status) (with_hooks w.hooks p) own

-- the program's step: a call on the lent parts, with its own buffer
unfoldable pub step : Parts → Call → List ℕ → Outcome
step p Load own = let w = load p own in outcome (of_verdict w.verdict) w.parts own
step p Reset own = let w = reset p in outcome (of_status w.status) w.parts own
step p WriteImage own =
    let w = write_image p.header p.records own in
    outcome (of_verdict w.verdict) p w.out
step p (Config width handle register access) own =
    let w = config_access p.header p.records p.registers p.windows
    width handle register access in
    outcome w.answer (with_registers w.registers w.windows p) own
step p (Data space width handle address access) own =
    let w = data_access p.header p.records p.windows p.cell_offsets p.cells
    space width handle address access in
    outcome w.answer (with_cells w.cells p) own
step p (GetResource handle) own =
    let g = get_resource p.header p.records p.registers p.windows handle own in
    outcome (of_status g.status) p g.out
step p (HookInterrupt handle handler parameter) own = hook_on p handle handler parameter own
step p (UnhookInterrupt handle) own = unhook_on p handle own
step p (SetCardUsed handle status call_back) own =
    let w = set_card_used p.header p.used handle status call_back in
    outcome (of_status w.status) (with_used w.used p) own
step p (Ask query) own = outcome (queried (blanked p) query) p own
