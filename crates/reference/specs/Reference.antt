-- The reference machine: the book of document 01, "Runs and the book". It is fed the cell buffer's
-- bytes at the start, then each call's arguments and own buffer, and nothing of what the program
-- keeps.
--
-- It keeps the loaded records one by one, the registers by function and number, the whole cell
-- buffer, each line's hooks in a list of their own, and the used marks.
--
-- It takes over from the crates below their rules on plain values, which name no lent part: what a
-- record must be and the first refusal of an image, windows and the lengths of their cells,
-- matches, what is named in a call edition, masks, the orders of checks, byte orders, descriptors,
-- and the numbers of answers.
--
-- It works out afresh what the program keeps, or holds in another form:
--   the window list   from records and registers, at every call that needs it; kept by the program
--   where cells are   from the lengths of all windows before; a table of offsets in the program
--   the chains        a list for each line; one array of all hooks in the program
--   an image          record by record; the program copies all bytes at once
--   good handles      1 to the count of records; the program reads the count in its header
-- Claim 2 (Claims.antt) says that the two never differ.
use Rattle.std.specs.Prelude.{ℕ, zero, suc, ◌+◌, ◌-◌, ◌*◌, ◌/◌, ◌%◌, ◌^◌, Bool, cond, not, ◌&&◌, List, [], ◌∷◌, ◌++◌, eqb, leb, ltb, length, get_or, take, drop, replicate, Result, Ok, Err}
use Rattle.numbers.specs.Numbers.{byte_at, bytes, big}
use Rattle.board.specs.Layout.{
  bases,
  masks_at,
  entries_at,
  entry_size,
  offset_at,
  dma_offset_at,
  base_register,
}
use Rattle.board.specs.Statuses.{successful, func_not_supported, buffer_too_small}
use Rattle.board.specs.declared.status.CallRefusal.{CallRefusal}
use Rattle.call_edition.specs.Edition.{bus_of}
use Rattle.call_edition.specs.declared.edition.InEdition.{InEdition}
use Rattle.window.specs.Window.{Window}
use Rattle.window_list.specs.Windows.{list_of}
use Rattle.window_listing.specs.Listing.{listed_number, listed_values}
use Rattle.config_read.specs.Target.{target}
use Rattle.config_read.specs.Read.{read_of, fast_read_of}
use Rattle.config_masked.specs.Masked.{written}
use Rattle.search.specs.Search.{sought_devices, sought_classes, sought_number}
use Rattle.data_cells.specs.Cells.{CellTarget, cells_after}
use Rattle.address_convert.specs.Convert.{to_cpu, to_bus}
use Rattle.data_access.specs.Data.{read_at, fast_read_at}
use Rattle.board.specs.Spaces.{space_number}
use Rattle.data_window.specs.Find.{Finding, offers, find, refusal_of, if_known}
use Rattle.data_order.specs.Orders.{cell_distance}
use Rattle.resource.specs.Resource.{Source, resource}
use Rattle.interrupt_array.specs.Hooks.{hook, is_routed}
use Rattle.interrupt_array.specs.declared.hooks.Hook.{Hook}
use Rattle.interrupt_hook.specs.Chain.{hook_checks, unhook_checks}
use Rattle.interrupt_hook.specs.Meaning.{is_among, without}
use Rattle.interrupt_list.specs.Listing.{chain_number, chain_values}
use Rattle.card_used.specs.Used.{new_mark, used_of, set_checks}
use Rattle.card_used.specs.declared.used.Mark.{Mark}
use Rattle.cell_layout.specs.Cells.{cells_before, total, zeroed}
use Rattle.image_layout.specs.Image.{image_record, image_size, count_of, records_of, sum, trailer}
use Rattle.image_record.specs.Record.{record_ok}
use Rattle.reset.specs.Reset.{first_register}
use Rattle.image_refusals.specs.Refusals.{Facts, Verdict, image_max, accepted, refused, is_accepted, first_refusal}
use Rattle.image_refusals.specs.declared.verdict.ImageRefusal.TheVariants.{Length, Count}
use Rattle.image_check.specs.Check.{facts}
use Rattle.call.specs.declared.answer.Answer.{Answer}
use Rattle.call.specs.declared.call.Call.{Call}
use Rattle.call.specs.declared.call.Access.TheVariants.{Read, FastRead, Write}
use Rattle.call.specs.declared.call.Call.TheVariants.{
  Load,
  Reset,
  WriteImage,
  Config,
  Data,
  GetResource,
  HookInterrupt,
  UnhookInterrupt,
  SetCardUsed,
  Ask,
}
use Rattle.call.specs.declared.call.Query.{Query}
use Rattle.call.specs.declared.call.Query.TheVariants.{
  FindPciDevice,
  FindPciClasscode,
  BusToCpu,
  CpuToBus,
  ListChain,
  GetCardUsed,
  SpecialCycle,
  GetRouting,
  SetInterrupt,
  ListWindow,
}
use Rattle.call.specs.Answers.{answer, of_status, of_verdict, of_search, of_read, of_fast_read, of_to_cpu, of_to_bus, of_chain, of_used}

-- the loaded records one by one; registers by function and number; the whole cell buffer; each
-- line's hooks in order; used marks by function
pub record Reference : Type 0 where
  pub records : List (List ℕ)
  pub registers : ℕ → ℕ → ℕ
  pub cells : List ℕ
  pub chains : ℕ → List Hook
  pub used : ℕ → Mark

abbrev pub reference : List (List ℕ) → (ℕ → ℕ → ℕ) → List ℕ → (ℕ → List Hook) → (ℕ → Mark)
    → Reference
reference records registers cells chains used =
    record { records = records; registers = registers; cells = cells; chains = chains; used = used }

-- a board without hooks and used marks
abbrev pub unused : List (List ℕ) → (ℕ → ℕ → ℕ) → List ℕ → Reference
unused records registers cells =
    reference records registers cells (λ line. []) (λ i. record { status = 0; call_back = 0 })

-- the record of the function at a place; empty where there is no function
abbrev pub record_of : List (List ℕ) → ℕ → List ℕ
record_of records i = get_or records i []

-- a field of the entry of base register b: length exponent, byte order, widths
abbrev pub entry_field : List (List ℕ) → ℕ → ℕ → ℕ → ℕ
entry_field records i b field = byte_at (record_of records i) (entries_at + entry_size * b + field)

abbrev pub exponent_of : List (List ℕ) → ℕ → ℕ → ℕ
exponent_of records i b = byte_at (record_of records i) (entries_at + entry_size * b)

-- all records' bytes
unfoldable pub joined : List (List ℕ) → List ℕ
joined [] = []
joined (r ∷ rs) = r ++ joined rs

-- registers copied, the cells that the windows need zeroed, hooks and used marks cleared
abbrev pub fresh : List (List ℕ) → List ℕ → Reference
fresh records cells =
    unused records (first_register (λ i. byte_at (record_of records i)))
    (zeroed (total (exponent_of records)) cells)

-- at the start no function
abbrev pub reference_start : List ℕ → Reference
reference_start cells = unused [] (λ i register. 0) cells

-- n records of an image's bytes
unfoldable pub split : ℕ → List ℕ → List (List ℕ)
split zero l = []
split (suc n) l = take image_record l ∷ split n (drop image_record l)

-- the records of an image
abbrev pub image_records : List ℕ → List (List ℕ)
image_records image = split (count_of image) (records_of image)

-- the verdict on an image, its records taken one by one
abbrev pub image_facts : List ℕ → Facts
image_facts image =
    facts image (λ i. record_ok (record_of (image_records image) i))
    (exponent_of (image_records image))

unfoldable pub image_verdict : List ℕ → ℕ → Verdict
image_verdict image room =
    cond (ltb image_max (length image)) (refused Length) (first_refusal (image_facts image) room)

-- the window list, worked out afresh
abbrev pub windows_of : Reference → List Window
windows_of b = list_of (length b.records) (exponent_of b.records) b.registers

-- the loaded records as an image without notes
abbrev pub image_bytes : List (List ℕ) → List ℕ
image_bytes records = joined records ++ trailer (length records) (sum (joined records))

-- handles are 1 to the count
abbrev pub is_handle_of : Reference → ℕ → Bool
is_handle_of b handle = leb 1 handle && leb handle (length b.records)

-- the function that a configuration access is for
abbrev pub target_of : Reference → ℕ → ℕ → ℕ → Result ℕ CallRefusal
target_of b w handle register = target (is_handle_of b handle) w handle register

-- the mask of a register of the function at place i; the clear mask, which status alone has, from
-- 06h to 07h
abbrev pub mask_of : List (List ℕ) → ℕ → ℕ → ℕ
mask_of records i at = byte_at (record_of records i) (masks_at + at)

abbrev pub clear_mask_of : List (List ℕ) → ℕ → ℕ → ℕ
clear_mask_of records i at = cond (leb 0x06 at && leb at 0x07) (mask_of records i at) 0

-- the registers after w bytes of a value are written at a register of the function at place i,
-- little-endian: each addressed byte through its own masks
abbrev pub registers_after : Reference → ℕ → ℕ → ℕ → ℕ → ℕ → ℕ → ℕ
registers_after b w i register value j at =
    let new = value / 256 ^ (at - register) % 256 in
    cond (eqb j i && (leb register at && ltb at (register + w)))
    (written (mask_of b.records i at) (clear_mask_of b.records i at) (b.registers i at) new)
    (b.registers j at)

abbrev pub with_registers_of : (ℕ → ℕ → ℕ) → Reference → Reference
with_registers_of r b = reference b.records r b.cells b.chains b.used

-- the window for a handle, in the list worked out afresh
abbrev pub find_for : Reference → ℕ → ℕ → ℕ → ℕ → Finding
find_for b w space handle address =
    let short = ltb (length b.cells) (total (exponent_of b.records)) in
    let offered : ℕ → Bool = λ base. offers w (entry_field b.records (handle - 1) base 2) in
    find (is_handle_of b handle) short offered (windows_of b) space w handle address

-- the first cell of an access, and the byte order: the cells of a window follow those of all
-- windows before it
unfoldable pub cell_target_at : Reference → ℕ → ℕ → Finding → CellTarget
cell_target_at b w handle (Ok f) =
    let order = entry_field b.records (handle - 1) f.base 1 in
    let begin = cells_before (exponent_of b.records) (bases * (handle - 1) + f.base) in
    Ok (record { at = begin + cell_distance order w f.distance; order = order })
cell_target_at b w handle (Err r) = Err r

-- what the CPU sees of a function's bus addresses is above them by its offset
abbrev pub offset_of : List (List ℕ) → ℕ → ℕ
offset_of records i = big 4 (byte_at (record_of records i)) offset_at

-- for what is named to a handle in a call edition, by the offset of the handle's own function
abbrev pub find_named_for : Reference → ℕ → ℕ → ℕ → InEdition → Finding
find_named_for b w space handle address =
    if_known address
    (find_for b w space handle (bus_of (offset_of b.records (handle - 1)) address).0)

abbrev pub cell_target_for : Reference → ℕ → ℕ → ℕ → InEdition → CellTarget
cell_target_for b w space handle address =
    cell_target_at b w handle (find_named_for b w space handle address)

abbrev pub with_cells_of : List ℕ → Reference → Reference
with_cells_of cells b = reference b.records b.registers cells b.chains b.used

abbrev pub dma_offset_of : List (List ℕ) → ℕ → ℕ
dma_offset_of records i = big 4 (byte_at (record_of records i)) dma_offset_at

-- what a function's descriptors are made of; the window list is worked out afresh
abbrev pub source_for : Reference → ℕ → Source
source_for b handle =
    let i = handle - 1 in
    record {
      handle = handle;
      windows = windows_of b;
      exponent = exponent_of b.records i;
      order = λ base. entry_field b.records i base 1;
      widths = λ base. entry_field b.records i base 2;
      register = base_register (b.registers i);
      offset = offset_of b.records i;
      dma_offset = dma_offset_of b.records i;
    }

-- a function's line and pin are the loaded ones: later writes there do not reroute
abbrev pub line_for : Reference → ℕ → ℕ
line_for b handle = byte_at (record_of b.records (handle - 1)) 0x3C

abbrev pub pin_for : Reference → ℕ → ℕ
pin_for b handle = byte_at (record_of b.records (handle - 1)) 0x3D

-- another chain on a line, another mark of the function at place i
abbrev pub with_chain_of : ℕ → List Hook → Reference → Reference
with_chain_of line chain b =
    reference b.records b.registers b.cells
    (λ l. cond (eqb l line) chain (b.chains l)) b.used

abbrev pub with_mark_of : ℕ → Mark → Reference → Reference
with_mark_of i m b =
    reference b.records b.registers b.cells
    b.chains (λ j. cond (eqb j i) m (b.used j))

-- the answer, the next state, and the call's own buffer
pub record ReferenceOutcome : Type 0 where
  pub answer : Answer
  pub reference : Reference
  pub own : List ℕ

abbrev pub reference_outcome : Answer → Reference → List ℕ → ReferenceOutcome
reference_outcome a b own = record { answer = a; reference = b; own = own }

abbrev pub write_of : Reference → ℕ → ℕ → ℕ → List ℕ → Result ℕ CallRefusal → ReferenceOutcome
write_of b w register value own (Ok i) =
    reference_outcome (of_status successful)
    (with_registers_of (registers_after b w i register value) b) own
write_of b w register value own (Err r) = reference_outcome (of_status (Err r)) b own

abbrev pub write_data_of : Reference → ℕ → ℕ → List ℕ → CellTarget → ReferenceOutcome
write_data_of b w value own (Ok c) =
    reference_outcome (of_status successful)
    (with_cells_of (cells_after c.order w c.at value b.cells) b) own
write_data_of b w value own (Err r) = reference_outcome (of_status (Err (refusal_of r))) b own

-- a hook goes last on its line; an unhook takes its own out
abbrev pub hook_of : Reference → ℕ → ℕ → ℕ → List ℕ → ReferenceOutcome
hook_of b handle handler parameter own =
    let line = line_for b handle in
    let chain = b.chains line in
    hook_checks (is_handle_of b handle) (is_routed (pin_for b handle) line) (not (is_among handle chain))
    (let longer = chain ++ hook handle handler parameter ∷ [] in
    reference_outcome (of_status successful) (with_chain_of line longer b) own)
    (λ s. reference_outcome (of_status s) b own)

abbrev pub unhook_of : Reference → ℕ → List ℕ → ReferenceOutcome
unhook_of b handle own =
    let line = line_for b handle in
    let chain = b.chains line in
    unhook_checks (is_handle_of b handle) (is_among handle chain)
    (reference_outcome (of_status successful) (with_chain_of line (without handle chain) b) own)
    (λ s. reference_outcome (of_status s) b own)

-- the board as a query sees it: of the cells how many there are, and no byte
abbrev pub blanked_of : Reference → Reference
blanked_of b = with_cells_of (replicate (length b.cells) 0) b

-- the answer of a call that changes nothing
unfoldable pub reference_queried : Reference → Query → Answer
reference_queried b (FindPciDevice id index) =
    of_search (sought_number (sought_devices id (length b.records) b.registers) index)
reference_queried b (FindPciClasscode class index) =
    of_search (sought_number (sought_classes class (length b.records) b.registers) index)
reference_queried b (BusToCpu handle address) =
    of_to_cpu (to_cpu (is_handle_of b handle) (offset_of b.records (handle - 1)) address)
reference_queried b (CpuToBus handle address) =
    of_to_bus (to_bus (is_handle_of b handle) (offset_of b.records (handle - 1)) address)
reference_queried b (ListChain line index) =
    of_chain (chain_number (b.chains line) line index) (chain_values (b.chains line) line index)
reference_queried b (GetCardUsed handle) =
    of_used (used_of (is_handle_of b handle) (b.used (handle - 1)))
reference_queried b (SpecialCycle bus message) = of_status func_not_supported
reference_queried b (GetRouting handle) = of_status func_not_supported
reference_queried b (SetInterrupt handle mode) = of_status func_not_supported
reference_queried b (ListWindow n) =
    answer (listed_number (windows_of b) n) (listed_values (windows_of b) n)

-- the reference machine's step: a call on a reference state, with its own buffer
unfoldable pub reference_step : Reference → Call → List ℕ → ReferenceOutcome
reference_step b Load own =
    let v = image_verdict own (length b.cells) in
    cond (is_accepted v) (reference_outcome (of_verdict v) (fresh (image_records own) b.cells) own)
    (reference_outcome (of_verdict v) b own)
reference_step b Reset own =
    cond (ltb (length b.cells) (total (exponent_of b.records)))
    (reference_outcome (of_status buffer_too_small) b own)
    (reference_outcome (of_status successful) (fresh b.records b.cells) own)
reference_step b WriteImage own =
    let n = length b.records in
    cond (ltb (length own) (image_size n)) (reference_outcome (of_verdict (refused Length)) b own)
    (cond (eqb n 0) (reference_outcome (of_verdict (refused Count)) b own)
    (reference_outcome (of_verdict accepted) b (image_bytes b.records ++ drop (image_size n) own)))
reference_step b (Config width handle register Read) own =
    let target = target_of b (bytes width) handle register in
    reference_outcome (of_read (read_of b.registers (bytes width) register target)) b own
reference_step b (Config width handle register FastRead) own =
    let target = target_of b (bytes width) handle register in
    reference_outcome (of_fast_read (fast_read_of b.registers (bytes width) register target)) b own
reference_step b (Config width handle register (Write value)) own =
    write_of b (bytes width) register value own (target_of b (bytes width) handle register)
reference_step b (Data space width handle address Read) own =
    let target = cell_target_for b (bytes width) (space_number space) handle address in
    reference_outcome (of_read (read_at (bytes width) b.cells target)) b own
reference_step b (Data space width handle address FastRead) own =
    let target = cell_target_for b (bytes width) (space_number space) handle address in
    reference_outcome (of_fast_read (fast_read_at (bytes width) b.cells target)) b own
reference_step b (Data space width handle address (Write value)) own =
    let target = cell_target_for b (bytes width) (space_number space) handle address in
    write_data_of b (bytes width) value own target
reference_step b (GetResource handle) own =
    let g = resource (is_handle_of b handle) (source_for b handle) own in
    reference_outcome (of_status g.status) b g.out
reference_step b (HookInterrupt handle handler parameter) own =
    hook_of b handle handler parameter own
reference_step b (UnhookInterrupt handle) own = unhook_of b handle own
reference_step b (SetCardUsed handle status call_back) own =
    set_checks (is_handle_of b handle) status
    (let mark : Mark = new_mark status call_back in
    reference_outcome (of_status successful) (with_mark_of (handle - 1) mark b) own)
    (λ s. reference_outcome (of_status s) b own)
reference_step b (Ask query) own = reference_outcome (reference_queried (blanked_of b) query) b own
