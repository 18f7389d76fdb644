-- Rows with literal numbers of what the claims are made of (document 01, "Numbers handed back" and
-- "Runs and the book"; request E1): the numbers that each call can be refused with, the fillers,
-- what a call may touch, and which calls are struck out. A claim with a wider list would still
-- hold; the rows hold the lists.
use Rattle.std.specs.Prelude.{ℕ, Bool, true, false, List, [], ◌∷◌, ◌++◌, map, ◌≡◌, ℤ, pos, neg_ℤ, replicate, Err}
use Rattle.board.specs.Addresses.{bus, cpu}
use Rattle.call_edition.specs.Edition.{in_edition, in_draft, in_later}
use Rattle.board.specs.declared.space.Space.TheVariants.{Memory, Io}
use Rattle.numbers.specs.declared.number.Width.TheVariants.{Byte, Word, Long}
use Rattle.interrupt_array.specs.Hooks.{hook}
use Rattle.data_cells.specs.Cells.{cells_from}
use Rattle.data_window.specs.declared.refusal.DataRefusal.TheVariants.{BadHandle}
use Rattle.call.specs.declared.call.Call.{Call}
use Rattle.call.specs.declared.call.Access.TheVariants.{Read, FastRead, Write}
use Rattle.call.specs.declared.call.Call.TheVariants.{
  Load,
  Reset,
  WriteImage,
  Config,
  Data,
  GetResource,
  HookInterrupt,
  UnhookInterrupt,
  SetCardUsed,
  Ask,
}
use Rattle.call.specs.declared.call.Query.TheVariants.{
  FindPciDevice,
  FindPciClasscode,
  BusToCpu,
  CpuToBus,
  ListChain,
  GetCardUsed,
  SpecialCycle,
  GetRouting,
  SetInterrupt,
  ListWindow,
}
use Rattle.reference.specs.Reference.{Reference, fresh}
use Rattle.reference.specs.Claims.{
  refusals,
  access_filler,
  HooksTouch,
  hooks_stay,
  put_last,
  taken_from,
  all_cleared,
  addressed,
  accessed,
  may_touch,
  struck_out,
}

abbrev minuses : List ℕ → List ℤ
minuses l = map (λ n. neg_ℤ (pos n)) l

-- two functions, both on line 15; base 0 of each is memory of k 2, so that they have 8 cells
abbrev record15 : List ℕ
record15 = replicate 0x3C 0 ++ (15 ∷ 1 ∷ replicate 450 0 ++ (2 ∷ 0 ∷ 7 ∷ replicate 29 0))

abbrev two : Reference
two = fresh (record15 ∷ record15 ∷ []) (replicate 9 0)

-- what a call may do to the hooks; which of the cells, header numbers, used numbers and own bytes
-- it may touch
abbrev hooks_of : Call → HooksTouch
hooks_of c = (may_touch two c []).hooks

abbrev registers_of : Call → List Bool
registers_of c = map (may_touch two c []).registers (16 ∷ 271 ∷ 272 ∷ 273 ∷ 274 ∷ 528 ∷ [])

abbrev used_of : Call → List Bool
used_of c = map (may_touch two c []).used (0 ∷ 1 ∷ 2 ∷ 3 ∷ 4 ∷ [])

abbrev cells_of : Call → List Bool
cells_of c = map (may_touch two c []).cells (0 ∷ 7 ∷ 8 ∷ [])

abbrev own_of : Call → List ℕ → List Bool
own_of c positions = map (may_touch two c []).own positions

-- data calls through handle 2, then through handle 1, then other calls through handle 2
abbrev some_calls : List Call
some_calls =
    Data Memory Byte 2 (in_later 0) Read ∷ Data Io Word 2 (in_later 0) FastRead
    ∷ Data Memory Long 2 (in_draft 0) (Write 1) ∷ Data Memory Byte 1 (in_draft 0) Read
    ∷ Config Byte 2 0 Read ∷ Config Byte 2 0 (Write 1) ∷ GetResource 2
    ∷ Ask (BusToCpu 2 (bus 0)) ∷ Ask (GetCardUsed 2) ∷ SetCardUsed 2 1 0 ∷ []

pub record ReferenceRows : Type 0 where
  -- the numbers of each call
  pub loads : refusals Load ≡ map pos (1 ∷ 2 ∷ 3 ∷ 4 ∷ 5 ∷ 6 ∷ 7 ∷ 8 ∷ [])
  pub writers : refusals WriteImage ≡ map pos (1 ∷ 3 ∷ [])
  pub resets : refusals Reset ≡ minuses (7 ∷ [])
  pub configurations : map (λ a. refusals (Config Word 1 0 a)) (Read ∷ FastRead ∷ Write 1 ∷ [])
      ≡ minuses (9 ∷ 5 ∷ []) ∷ (pos 0 ∷ []) ∷ minuses (9 ∷ 5 ∷ []) ∷ []
  pub data_calls :
      map (λ a. refusals (Data Io Word 1 (in_later 0) a)) (Read ∷ FastRead ∷ Write 1 ∷ [])
      ≡ minuses (9 ∷ 7 ∷ 8 ∷ 2 ∷ []) ∷ (pos 0 ∷ []) ∷ minuses (9 ∷ 7 ∷ 8 ∷ 2 ∷ []) ∷ []
  pub resources : refusals (GetResource 1) ≡ minuses (9 ∷ 8 ∷ 7 ∷ [])
  pub hooks : refusals (HookInterrupt 1 2 3) ∷ refusals (UnhookInterrupt 1) ∷ []
      ≡ minuses (9 ∷ 8 ∷ 6 ∷ []) ∷ minuses (9 ∷ 8 ∷ []) ∷ []
  pub marks : refusals (SetCardUsed 1 2 3) ∷ refusals (Ask (GetCardUsed 1)) ∷ []
      ≡ minuses (9 ∷ 8 ∷ []) ∷ minuses (9 ∷ []) ∷ []
  pub searches : refusals (Ask (FindPciDevice (in_later 1) 2))
      ∷ refusals (Ask (FindPciClasscode (in_later 1) 2)) ∷ []
      ≡ minuses (4 ∷ []) ∷ minuses (4 ∷ []) ∷ []
  -- -3 of a device search of draft 1.9 alone, and -2 alone of an edition that is none
  pub draft_searches : refusals (Ask (FindPciDevice (in_draft 1) 2))
      ∷ refusals (Ask (FindPciClasscode (in_draft 1) 2)) ∷ []
      ≡ minuses (3 ∷ 4 ∷ []) ∷ minuses (4 ∷ []) ∷ []
  pub draft_data : refusals (Data Io Word 1 (in_draft 0) Read) ≡ minuses (9 ∷ 7 ∷ 8 ∷ 2 ∷ [])
  pub unknown_editions :
      map (λ e. refusals (Ask (FindPciDevice (in_edition 1 e) 2))) (0 ∷ 3 ∷ [])
      ++ map (λ e. refusals (Ask (FindPciClasscode (in_edition 1 e) 2))) (0 ∷ 3 ∷ [])
      ++ map (λ e. refusals (Data Io Word 1 (in_edition 0 e) Read)) (0 ∷ 3 ∷ [])
      ≡ replicate 6 (minuses (2 ∷ []))
  pub conversions : refusals (Ask (BusToCpu 1 (bus 2))) ∷ refusals (Ask (CpuToBus 1 (cpu 2))) ∷ []
      ≡ minuses (9 ∷ []) ∷ minuses (9 ∷ []) ∷ []
  pub listings : refusals (Ask (ListChain 1 2)) ∷ refusals (Ask (ListWindow 1)) ∷ []
      ≡ minuses (8 ∷ 4 ∷ []) ∷ minuses (4 ∷ []) ∷ []
  pub always : map (λ q. refusals (Ask q)) (SpecialCycle 1 2 ∷ GetRouting 1 ∷ SetInterrupt 1 2 ∷ [])
      ≡ minuses (2 ∷ []) ∷ minuses (2 ∷ []) ∷ minuses (2 ∷ []) ∷ []
  -- zeros, or all ones of its width for a fast read
  pub fillers : map (λ w. access_filler w FastRead) (Byte ∷ Word ∷ Long ∷ [])
      ≡ (0xFF ∷ replicate 5 0) ∷ (0xFFFF ∷ replicate 5 0) ∷ (0xFFFFFFFF ∷ replicate 5 0) ∷ []
  pub zero_fillers : access_filler Long Read ∷ access_filler Long (Write 7) ∷ []
      ≡ replicate 6 0 ∷ replicate 6 0 ∷ []
  -- a word write at 10h of handle 2 addresses bytes 272 and 273 of the registers
  pub bytes_addressed : map (addressed 2 2 0x10) (16 ∷ 271 ∷ 272 ∷ 273 ∷ 274 ∷ 528 ∷ [])
      ≡ false ∷ false ∷ true ∷ true ∷ false ∷ false ∷ []
  -- and touches no other; a read and a data write none, a reset all
  pub registers_touched : map registers_of
      (Config Word 2 0x10 (Write 1) ∷ Config Word 2 0x10 Read
      ∷ Data Memory Byte 2 (in_later 0) (Write 1) ∷ Reset ∷ [])
      ≡ (false ∷ false ∷ true ∷ true ∷ false ∷ false ∷ [])
      ∷ replicate 6 false ∷ replicate 6 false ∷ replicate 6 true ∷ []
  -- the records and of the header the count: a load alone
  pub records_touched : map (λ c. (may_touch two c []).records) (Load ∷ Reset ∷ WriteImage ∷ [])
      ≡ true ∷ false ∷ false ∷ []
  pub header_touched : map (may_touch two Load []).header (0 ∷ 1 ∷ [])
      ++ map (may_touch two Reset []).header (0 ∷ [])
      ≡ true ∷ false ∷ false ∷ []
  -- the kept list: where a byte of 04h or 10h-27h is written
  pub list_touched : map (λ c. (may_touch two c []).list)
      (Config Byte 2 0x04 (Write 1) ∷ Config Byte 2 0x05 (Write 1) ∷ Config Byte 2 0x27 (Write 1)
      ∷ Config Byte 2 0x27 Read ∷ Data Memory Byte 2 (in_later 0) (Write 1) ∷ Reset ∷ [])
      ≡ true ∷ false ∷ true ∷ false ∷ false ∷ true ∷ []
  -- a longword write from cell 4 on; a refused one has no cell
  pub cells_accessed : map (accessed 4 (cells_from 4 2)) (3 ∷ 4 ∷ 7 ∷ 8 ∷ [])
      ≡ false ∷ true ∷ true ∷ false ∷ []
  pub none_accessed : map (accessed 4 (Err BadHandle)) (0 ∷ 4 ∷ []) ≡ false ∷ false ∷ []
  -- set used: its own mark; load and reset: all of them, a query none
  pub used_touched : map used_of (SetCardUsed 2 1 0 ∷ Reset ∷ Ask (GetCardUsed 2) ∷ [])
      ≡ (false ∷ false ∷ true ∷ true ∷ false ∷ [])
      ∷ (true ∷ true ∷ true ∷ true ∷ true ∷ [])
      ∷ (false ∷ false ∷ false ∷ false ∷ false ∷ []) ∷ []
  -- a reset: the cells that the windows need, and none past them; a read none
  pub cells_touched : map cells_of (Reset ∷ Data Memory Byte 1 (in_later 0) Read ∷ [])
      ≡ (true ∷ true ∷ false ∷ []) ∷ (false ∷ false ∷ false ∷ []) ∷ []
  -- the writer: the image of two records; descriptors: 20 bytes for one window; a query none
  pub own_touched : own_of WriteImage (0 ∷ 1099 ∷ 1100 ∷ []) ∷ own_of (GetResource 2) (19 ∷ 20 ∷ [])
      ∷ own_of (Ask (ListWindow 0)) (0 ∷ []) ∷ []
      ≡ (true ∷ true ∷ false ∷ []) ∷ (true ∷ false ∷ []) ∷ (false ∷ []) ∷ []
  -- hooks: on the loaded line; load and reset clear, all others leave them
  pub hooks_touched : map hooks_of
      (HookInterrupt 2 3 4 ∷ UnhookInterrupt 2 ∷ Load ∷ Reset ∷ WriteImage
      ∷ Config Byte 2 0x3C (Write 1) ∷ Data Memory Byte 2 (in_later 0) (Write 1)
      ∷ GetResource 2 ∷ SetCardUsed 2 1 0 ∷ Ask (ListChain 15 0) ∷ [])
      ≡ put_last 15 (hook 2 3 4) ∷ taken_from 15 2 ∷ all_cleared ∷ all_cleared ∷ hooks_stay
      ∷ hooks_stay ∷ hooks_stay
      ∷ hooks_stay ∷ hooks_stay ∷ hooks_stay ∷ []
  -- the data calls through the handle are struck out, and no other call
  pub calls : map (struck_out 2) some_calls
      ≡ true ∷ true ∷ true ∷ false ∷ false ∷ false ∷ false ∷ false ∷ false ∷ false ∷ []
