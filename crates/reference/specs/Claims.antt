-- The claims about runs, without their proofs: document 01, "Runs and the book", demand 3.
--   1 refusal          a refused call gives a number that is stated for it and the filler, and
--                      changes nothing; in every state, also one that no run reaches
--   2 refinement       every run from the start is a run of the reference machine: the same
--                      responses, and the lent parts that its state describes
--   3 frame            what a call may not touch is equal before and after it, and each line's
--                      hooks are what they were but for the call's own entry; after every run
--   4 noninterference  of two runs that differ in data calls through one handle alone, the
--                      responses to all other calls are equal, and so are the boards after them
--                      but for that function's cells and those past the total
-- Demand3 is the four as one claim.
use Rattle.std.specs.Prelude.{ℕ, ◌+◌, ◌-◌, ◌*◌, ◌/◌, ◌%◌, ◌^◌, ◌<◌, ◌≤◌, Bool, true, false, cond, ◌&&◌, List, [], ◌∷◌, ◌++◌, ◌⊎◌, ◌≡◌, eqb, leb, ltb, ℤ, pos, length, get_or, replicate, Ok, Err}
use Rattle.board.specs.Parts.{Parts}
use Rattle.board.specs.Layout.{bases, registers_each, mark_size}
use Rattle.numbers.specs.Numbers.{bytes}
use Rattle.numbers.specs.declared.number.Width.{Width}
use Rattle.board.specs.Statuses.{
  number_of,
  func_not_supported,
  bad_vendor_id,
  device_not_found,
  bad_register_number,
  buffer_too_small,
  general_error,
  bad_handle,
  set_failed,
}
use Rattle.call_edition.specs.Edition.{is_draft, is_known}
use Rattle.call_edition.specs.declared.edition.InEdition.{InEdition}
use Rattle.config_write.specs.Write.{moves_windows}
use Rattle.board.specs.Spaces.{space_number}
use Rattle.data_cells.specs.Cells.{CellTarget}
use Rattle.resource_descriptor.specs.Descriptor.{size}
use Rattle.interrupt_array.specs.Hooks.{hook, last_line, chain_of}
use Rattle.interrupt_array.specs.declared.hooks.Hook.{Hook}
use Rattle.resource.specs.Resource.{window_bases}
use Rattle.cell_layout.specs.Cells.{slot_cells, cells_before, total}
use Rattle.image_layout.specs.Image.{image_size}
use Rattle.call.specs.declared.answer.Answer.{Answer}
use Rattle.call.specs.declared.call.Call.{Call}
use Rattle.call.specs.declared.call.Access.{Access}
use Rattle.call.specs.declared.call.Access.TheVariants.{Read, FastRead, Write}
use Rattle.call.specs.declared.call.Call.TheVariants.{
  Load,
  Reset,
  WriteImage,
  Config,
  Data,
  GetResource,
  HookInterrupt,
  UnhookInterrupt,
  SetCardUsed,
  Ask,
}
use Rattle.call.specs.declared.call.Query.{Query}
use Rattle.call.specs.declared.call.Query.TheVariants.{
  FindPciDevice,
  FindPciClasscode,
  BusToCpu,
  CpuToBus,
  ListChain,
  GetCardUsed,
  SpecialCycle,
  GetRouting,
  SetInterrupt,
  ListWindow,
}
use Rattle.call.specs.Answers.{zeros, one}
use Rattle.call.specs.Calls.{writes}
use Rattle.reference.specs.State.{Outcome, step}
use Rattle.reference.specs.Reference.{
  Reference,
  exponent_of,
  image_records,
  cell_target_for,
  line_for,
  reference_start,
}
use Rattle.reference.specs.Run.{
  Request,
  Response,
  step_on,
  responses,
  parts_after,
  reference_responses,
  reference_after,
  parts_of,
  start,
}

-- 1. REFUSAL. The numbers that a data call can be refused with, in the order of the checks.
abbrev pub data_refusals : List ℤ
data_refusals = number_of bad_handle ∷ number_of buffer_too_small ∷ number_of general_error ∷ number_of func_not_supported ∷ []

-- The numbers in draft 1.9 and in the later text; an unknown edition has -2 alone.
abbrev pub in_editions : InEdition → List ℤ → List ℤ → List ℤ
in_editions named draft later =
    cond (is_draft named) draft (cond (is_known named) later (number_of func_not_supported ∷ []))

-- A fast read has no number, and 0 stands there.
abbrev pub access_refusals : Access → List ℤ → List ℤ
access_refusals Read l = l
access_refusals FastRead l = pos 0 ∷ []
access_refusals (Write value) l = l

abbrev pub query_refusals : Query → List ℤ
query_refusals (FindPciDevice id index) =
    in_editions id (number_of bad_vendor_id ∷ number_of device_not_found ∷ []) (number_of device_not_found ∷ [])
query_refusals (FindPciClasscode class index) =
    in_editions class (number_of device_not_found ∷ []) (number_of device_not_found ∷ [])
query_refusals (BusToCpu handle address) = number_of bad_handle ∷ []
query_refusals (CpuToBus handle address) = number_of bad_handle ∷ []
query_refusals (ListChain line index) = number_of general_error ∷ number_of device_not_found ∷ []
query_refusals (GetCardUsed handle) = number_of bad_handle ∷ []
query_refusals (SpecialCycle bus message) = number_of func_not_supported ∷ []
query_refusals (GetRouting handle) = number_of func_not_supported ∷ []
query_refusals (SetInterrupt handle mode) = number_of func_not_supported ∷ []
query_refusals (ListWindow n) = number_of device_not_found ∷ []

-- The numbers that a call can be refused with.
abbrev pub refusals : Call → List ℤ
refusals Load = pos 1 ∷ pos 2 ∷ pos 3 ∷ pos 4 ∷ pos 5 ∷ pos 6 ∷ pos 7 ∷ pos 8 ∷ []
refusals Reset = number_of buffer_too_small ∷ []
refusals WriteImage = pos 1 ∷ pos 3 ∷ []
refusals (Config width handle register access) =
    access_refusals access (number_of bad_handle ∷ number_of bad_register_number ∷ [])
refusals (Data space width handle address access) =
    access_refusals access (in_editions address data_refusals data_refusals)
refusals (GetResource handle) = number_of bad_handle ∷ number_of general_error ∷ number_of buffer_too_small ∷ []
refusals (HookInterrupt handle handler parameter) =
    number_of bad_handle ∷ number_of general_error ∷ number_of set_failed ∷ []
refusals (UnhookInterrupt handle) = number_of bad_handle ∷ number_of general_error ∷ []
refusals (SetCardUsed handle status call_back) = number_of bad_handle ∷ number_of general_error ∷ []
refusals (Ask query) = query_refusals query

abbrev pub Among : ℤ → List ℤ → Type 0
Among z [] = ⊥
Among z (x ∷ l) = (z ≡ x) ⊎ Among z l

-- The filler: zeros, but for the place that a load returns with 6, and all ones of its width for a
-- fast read.
abbrev pub access_filler : Width → Access → List ℕ
access_filler width Read = zeros
access_filler width FastRead = one (256 ^ bytes width - 1)
access_filler width (Write value) = zeros

abbrev pub Filler : Call → Answer → Type 0
Filler Load a =
    (a.values ≡ zeros)
    ⊎ ((a.number ≡ pos 6) × (a.values ≡ get_or a.values 0 0 ∷ replicate 5 0))
Filler Reset a = a.values ≡ zeros
Filler WriteImage a = a.values ≡ zeros
Filler (Config width handle register access) a = a.values ≡ access_filler width access
Filler (Data space width handle address access) a = a.values ≡ access_filler width access
Filler (GetResource handle) a = a.values ≡ zeros
Filler (HookInterrupt handle handler parameter) a = a.values ≡ zeros
Filler (UnhookInterrupt handle) a = a.values ≡ zeros
Filler (SetCardUsed handle status call_back) a = a.values ≡ zeros
Filler (Ask query) a = a.values ≡ zeros

-- A refused call gives a stated number and the filler, and leaves every lent part and its own
-- buffer as they were.
pub record Untouched (p : Parts) (c : Call) (lent : List ℕ) (n : Outcome) : Type 0 where
  pub number : Among n.answer.number (refusals c)
  pub filler : Filler c n.answer
  pub parts : n.parts ≡ p
  pub own : n.own ≡ lent

-- In every state, also one that no run reaches.
abbrev pub Refusal : Type 0
Refusal =
    (p : Parts) (c : Call) (own : List ℕ) → (step p c own).answer.refused ≡ true
    → Untouched p c own (step p c own)

-- 2. REFINEMENT. Every run from the start, with any cells, is a run of the reference machine: every
-- answer with its own buffer, and every lent part. The kept list among the parts is the list worked
-- out afresh.
pub record Refines (cells : List ℕ) (cs : List Request) : Type 0 where
  pub answered : responses (start cells) cs ≡ reference_responses (reference_start cells) cs
  pub stands : parts_after (start cells) cs ≡ parts_of (reference_after (reference_start cells) cs)

abbrev pub Refinement : Type 0
Refinement = (cells : List ℕ) (cs : List Request) → Refines cells cs

-- 3. FRAME. What an accepted call does to the hooks of all lines: nothing, one put last on a line,
-- one of a handle taken from a line, or all cleared.
pub data HooksTouch : Type 0 where
  hooks_stay : HooksTouch
  put_last : ℕ → Hook → HooksTouch
  taken_from : ℕ → ℕ → HooksTouch
  all_cleared : HooksTouch

abbrev pub leaves_hooks : HooksTouch → Bool
leaves_hooks hooks_stay = true
leaves_hooks (put_last line h) = false
leaves_hooks (taken_from line handle) = false
leaves_hooks all_cleared = false

-- What a call may touch: header numbers, the records with their cell offsets, registers, the kept
-- window list, hooks, used marks, cells, its own bytes.
pub record Touch : Type 0 where
  pub header : ℕ → Bool
  pub records : Bool
  pub registers : ℕ → Bool
  pub list : Bool
  pub hooks : HooksTouch
  pub used : ℕ → Bool
  pub cells : ℕ → Bool
  pub own : ℕ → Bool

abbrev pub none : ℕ → Bool
none i = false

abbrev pub every : ℕ → Bool
every i = true

abbrev pub touch : (ℕ → Bool) → Bool → (ℕ → Bool) → Bool → HooksTouch → (ℕ → Bool) → (ℕ → Bool)
    → (ℕ → Bool) → Touch
touch header records registers list hooks used cells own =
    record {
      header = header;
      records = records;
      registers = registers;
      list = list;
      hooks = hooks;
      used = used;
      cells = cells;
      own = own;
    }

-- byte j of the registers is one of the w bytes from a register of a handle on
abbrev pub addressed : ℕ → ℕ → ℕ → ℕ → Bool
addressed w handle register j =
    eqb (j / registers_each + 1) handle
    && (leb register (j % registers_each) && ltb (j % registers_each) (register + w))

-- byte j of the cell buffer is one of the w cells of an access
abbrev pub accessed : ℕ → CellTarget → ℕ → Bool
accessed w (Ok c) j = leb c.at j && ltb j (c.at + w)
accessed w (Err r) j = false

abbrev pub nothing : Touch
nothing = touch none false none false hooks_stay none none none

-- what only a write touches
abbrev pub if_writes : Access → Touch → Touch
if_writes access t = cond (writes access) t nothing

-- document 01's list, "Runs and the book"; the header's first number is the count of the records
unfoldable pub may_touch : Reference → Call → List ℕ → Touch
may_touch b Load own =
    touch (λ i. eqb i 0) true every true all_cleared every
    (λ i. ltb i (total (exponent_of (image_records own)))) none
may_touch b Reset own =
    touch none false every true all_cleared every (λ i. ltb i (total (exponent_of b.records))) none
may_touch b WriteImage own =
    touch none false none false hooks_stay none none (λ i. ltb i (image_size (length b.records)))
may_touch b (Config width handle register access) own =
    if_writes access
    (touch none false (addressed (bytes width) handle register)
    (moves_windows (bytes width) register) hooks_stay none none none)
may_touch b (Data space width handle address access) own =
    let target = cell_target_for b (bytes width) (space_number space) handle address in
    if_writes access
    (touch none false none false hooks_stay none (accessed (bytes width) target) none)
may_touch b (GetResource handle) own =
    touch none false none false hooks_stay none none
    (λ i. ltb i (size * length (window_bases (exponent_of b.records (handle - 1)))))
may_touch b (HookInterrupt handle handler parameter) own =
    touch none false none false (put_last (line_for b handle) (hook handle handler parameter))
    none none none
may_touch b (UnhookInterrupt handle) own =
    touch none false none false (taken_from (line_for b handle) handle) none none none
may_touch b (SetCardUsed handle status call_back) own =
    touch none false none false hooks_stay (λ j. eqb (j / mark_size + 1) handle) none none
may_touch b (Ask query) own = nothing

-- two lists have the same length, and the same wherever a touch is not allowed
pub record EqualOutside (t : ℕ → Bool) (l m : List ℕ) : Type 0 where
  pub room : length l ≡ length m
  pub same : (i : ℕ) → t i ≡ false → get_or l i 0 ≡ get_or m i 0

-- what a call may not touch is equal before and after it
pub record Framed (t : Touch) (p : Parts) (lent : List ℕ) (n : Outcome) : Type 0 where
  pub header : EqualOutside t.header n.parts.header p.header
  pub records : t.records ≡ false → n.parts.records ≡ p.records
  pub offsets : t.records ≡ false → n.parts.cell_offsets ≡ p.cell_offsets
  pub registers : EqualOutside t.registers n.parts.registers p.registers
  pub list : t.list ≡ false → n.parts.windows ≡ p.windows
  pub hooks : leaves_hooks t.hooks ≡ true → n.parts.hooks ≡ p.hooks
  pub used : EqualOutside t.used n.parts.used p.used
  pub cells : EqualOutside t.cells n.parts.cells p.cells
  pub own : EqualOutside t.own n.own lent

-- a hook of a handle goes, the others keep their order
pub record TakenOut (handle : ℕ) (old new : List Hook) : Type 0 where
  pub before : List Hook
  pub entry : Hook
  pub after : List Hook
  pub its : entry.handle ≡ handle
  pub stood : old ≡ before ++ entry ∷ after
  pub left : new ≡ before ++ after

-- the hooks of a line before and after an accepted call
abbrev pub OnLine : HooksTouch → ℕ → List Hook → List Hook → Type 0
OnLine hooks_stay line old new = new ≡ old
OnLine (put_last own h) line old new =
    (line ≡ own → new ≡ old ++ h ∷ []) × ((line ≡ own → ⊥) → new ≡ old)
OnLine (taken_from own handle) line old new =
    (line ≡ own → TakenOut handle old new) × ((line ≡ own → ⊥) → new ≡ old)
OnLine all_cleared line old new = new ≡ []

-- of every line there is; a refused call leaves them all
abbrev pub LinesFramed : HooksTouch → Parts → Outcome → Type 0
LinesFramed t p n =
    (line : ℕ) → line ≤ last_line
    → OnLine (cond n.answer.refused hooks_stay t) line
    (chain_of p.records p.hooks line) (chain_of n.parts.records n.parts.hooks line)

pub record CallFramed (b : Reference) (p : Parts) (c : Request) (n : Outcome) : Type 0 where
  pub parts : Framed (may_touch b c.call c.own) p c.own n
  pub lines : LinesFramed (may_touch b c.call c.own).hooks p n

-- after every run
abbrev pub Frame : Type 0
Frame =
    (cells : List ℕ) (cs : List Request) (c : Request)
    → CallFramed (reference_after (reference_start cells) cs) (parts_after (start cells) cs) c
    (step_on (parts_after (start cells) cs) c)

-- 4. NONINTERFERENCE. The handle that a call goes through, and whether for data.
pub data Through : Type 0 where
  nobody : Through
  by : ℕ → Through
  data_by : ℕ → Through

abbrev pub query_through : Query → Through
query_through (FindPciDevice id index) = nobody
query_through (FindPciClasscode class index) = nobody
query_through (BusToCpu handle address) = by handle
query_through (CpuToBus handle address) = by handle
query_through (ListChain line index) = nobody
query_through (GetCardUsed handle) = by handle
query_through (SpecialCycle bus message) = nobody
query_through (GetRouting handle) = by handle
query_through (SetInterrupt handle mode) = by handle
query_through (ListWindow n) = nobody

abbrev pub through : Call → Through
through Load = nobody
through Reset = nobody
through WriteImage = nobody
through (Config width handle register access) = by handle
through (Data space width handle address access) = data_by handle
through (GetResource handle) = by handle
through (HookInterrupt handle handler parameter) = by handle
through (UnhookInterrupt handle) = by handle
through (SetCardUsed handle status call_back) = by handle
through (Ask query) = query_through query

-- The calls that are struck out: the data calls through a handle h.
abbrev pub is_data : ℕ → Through → Bool
is_data h nobody = false
is_data h (by handle) = false
is_data h (data_by handle) = eqb handle h

abbrev pub struck_out : ℕ → Call → Bool
struck_out h c = is_data h (through c)

-- the calls of a run without those that are struck out, and the responses to them
unfoldable pub without_data_of : ℕ → List Request → List Request
without_data_of h [] = []
without_data_of h (c ∷ cs) =
    cond (struck_out h c.call) (without_data_of h cs) (c ∷ without_data_of h cs)

unfoldable pub responses_without_data_of : ℕ → List Request → List Response → List Response
responses_without_data_of h [] rs = []
responses_without_data_of h (c ∷ cs) [] = []
responses_without_data_of h (c ∷ cs) (r ∷ rs) =
    cond (struck_out h c.call) (responses_without_data_of h cs rs)
    (r ∷ responses_without_data_of h cs rs)

-- two boards that no call but the data calls through h tells apart: every part but the cells, and
-- the cells of every other function's windows; rs are the loaded records. Bytes past the total are
-- nobody's, as a load of a smaller board leaves there what stood there.
pub record Unseen (h : ℕ) (rs : List (List ℕ)) (p q : Parts) : Type 0 where
  pub header : p.header ≡ q.header
  pub records : p.records ≡ q.records
  pub registers : p.registers ≡ q.registers
  pub windows : p.windows ≡ q.windows
  pub offsets : p.cell_offsets ≡ q.cell_offsets
  pub hooks : p.hooks ≡ q.hooks
  pub used : p.used ≡ q.used
  pub room : length p.cells ≡ length q.cells
  pub cells : (i b o : ℕ) → (i + 1 ≡ h → ⊥) → i < length rs → b < bases
      → o < slot_cells (exponent_of rs) (bases * i + b)
      → get_or p.cells (cells_before (exponent_of rs) (bases * i + b) + o) 0
      ≡ get_or q.cells (cells_before (exponent_of rs) (bases * i + b) + o) 0

-- Two runs from equal cells that are equal once the data calls through h are struck out: the
-- responses to every other call are equal, and the boards that stand after them are not told apart.
pub record Apart (h : ℕ) (cells : List ℕ) (cs ds : List Request) : Type 0 where
  pub answered : responses_without_data_of h cs (responses (start cells) cs)
      ≡ responses_without_data_of h ds (responses (start cells) ds)
  pub unseen : Unseen h (reference_after (reference_start cells) cs).records
      (parts_after (start cells) cs) (parts_after (start cells) ds)

abbrev pub NonInterference : Type 0
NonInterference =
    (h : ℕ) (cells : List ℕ) (cs ds : List Request) → without_data_of h cs ≡ without_data_of h ds
    → Apart h cells cs ds

-- DEMAND 3, as one claim.
pub record Demand3 : Type 0 where
  pub refusal : Refusal
  pub refinement : Refinement
  pub frame : Frame
  pub non_interference : NonInterference
