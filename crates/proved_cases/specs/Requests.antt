-- THE REQUESTS' TABLE: one sentence over the rows of the change requests of document 02. Rows of a
-- crate that a request brought stand in the crate; here are calls from a fresh board, with the
-- numbers of the request.
use Rattle.std.specs.Prelude.{ℕ, List, [], ◌∷◌}
use Rattle.board.specs.declared.space.Space.TheVariants.{Memory, Io}
use Rattle.numbers.specs.declared.number.Width.{Width}
use Rattle.numbers.specs.declared.number.Width.TheVariants.{Byte, Word, Long}
use Rattle.call_edition.specs.Edition.{in_edition, in_draft, in_later}
use Rattle.call_edition.specs.declared.edition.InEdition.{InEdition}
use Rattle.call_edition.specs.Rows.{CallEditionRows}
use Rattle.config_masked.specs.Rows.{ConfigMaskedRows}
use Rattle.call.specs.declared.call.Access.{Access}
use Rattle.call.specs.declared.call.Access.TheVariants.{Read, FastRead, Write}
use Rattle.call.specs.declared.call.Call.{Call}
use Rattle.call.specs.declared.call.Call.TheVariants.{Reset, Config, Data, Ask}
use Rattle.call.specs.declared.call.Query.TheVariants.{FindPciDevice, FindPciClasscode}
use Rattle.proved_cases.specs.B1.{at, b1_with, b1}
use Rattle.proved_cases.specs.Rows.{
  Row,
  gives,
  gives_minus,
  finds,
  faults,
  loads,
  Run,
  run,
  dirty,
  EveryRow,
  program_runs,
}

-- calls on a board of B1's shape, with its 2,064 cells
abbrev on_board : List ℕ → List Row → Run
on_board image rows = run (dirty 2064) (loads image ∷ rows)

-- E1. A longword of memory.
abbrev long : ℕ → InEdition → Access → Call
long handle address access = Data Memory Long handle address access

-- before the first load: -3 and -2 before -4, -2 before -9
abbrev draft_empty : Run
draft_empty =
    run (dirty 4)
    (gives_minus (Ask (FindPciDevice (in_draft 0x0F0F0001) 0)) 4
    ∷ gives_minus (Ask (FindPciDevice (in_draft 0xFFFF0001) 0)) 3
    ∷ gives_minus (Ask (FindPciDevice (in_edition 0xFFFF0001 3) 0)) 2
    ∷ gives_minus (Ask (FindPciClasscode (in_edition 0x118000 0) 0)) 2
    ∷ gives_minus (long 1 (in_draft 0) Read) 9
    ∷ gives_minus (long 1 (in_edition 0 3) Read) 2
    ∷ [])

-- searches of B1
abbrev draft_searches : Run
draft_searches =
    on_board b1
    (finds (FindPciDevice (in_draft 0x0F0F0001) 0) 1
    ∷ finds (FindPciDevice (in_draft 0x0F0F0001) 1) 2
    ∷ gives_minus (Ask (FindPciDevice (in_draft 0x0F0F0001) 2)) 4
    ∷ gives_minus (Ask (FindPciDevice (in_draft 0x00010F0F) 0)) 4
    ∷ finds (FindPciDevice (in_later 0x00010F0F) 1) 2
    ∷ gives_minus (Ask (FindPciDevice (in_draft 0x0000FFFF) 0)) 4
    ∷ gives_minus (Ask (FindPciDevice (in_draft 0xFFFF0001) 0)) 3
    ∷ gives_minus (Ask (FindPciDevice (in_draft 0xFFFF0001) 0xFFFFFFFF)) 3
    ∷ gives_minus (Ask (FindPciDevice (in_draft 0xFFFE0001) 0)) 4
    ∷ gives_minus (Ask (FindPciDevice (in_draft 0x0F0FFFFF) 0)) 4
    ∷ gives_minus (Ask (FindPciDevice (in_edition 0x0F0F0001 3) 1)) 2
    ∷ gives_minus (Ask (FindPciDevice (in_edition 0x0F0F0001 0x101) 1)) 2
    ∷ gives_minus (Ask (FindPciDevice (in_edition 0x00010F0F 0x102) 1)) 2
    ∷ gives_minus (Ask (FindPciClasscode (in_draft 0x01118055) 0)) 4
    ∷ finds (FindPciClasscode (in_later 0x01118055) 0) 1
    ∷ finds (FindPciClasscode (in_draft 0xFF118000) 0) 1
    ∷ finds (FindPciClasscode (in_draft 0x00118000) 1) 2
    ∷ gives_minus (Ask (FindPciClasscode (in_draft 0x00118000) 2)) 4
    ∷ gives_minus (Ask (FindPciClasscode (in_edition 0x00118000 0) 0)) 2
    ∷ [])

-- data calls of B1 with an offset of F0000000h at handle 1, in both editions on one window, and of
-- editions that are none
abbrev draft_data : Run
draft_data =
    on_board (b1_with (at 536 0xF0 ∷ []) 0x0F 0x78)
    (gives (long 1 (in_draft 0x700003FC) (Write 0x11223344)) []
    ∷ gives (long 1 (in_later 0x800003FC) Read) (0x11223344 ∷ [])
    ∷ gives (long 1 (in_draft 0x700003FC) Read) (0x11223344 ∷ [])
    ∷ gives (long 1 (in_draft 0x700003FC) FastRead) (0x11223344 ∷ [])
    ∷ gives (long 1 (in_later 0x80000000) (Write 0x55667788)) []
    ∷ gives (Data Memory Word 1 (in_draft 0x70000000) Read) (0x7788 ∷ [])
    ∷ gives (Data Memory Byte 1 (in_draft 0x70000000) Read) (0x88 ∷ [])
    ∷ gives_minus (long 1 (in_draft 0x70000400) (Write 1)) 8
    ∷ gives_minus (long 1 (in_draft 0x6FFFFFFC) Read) 8
    ∷ gives_minus (long 1 (in_draft 0x800003FC) Read) 8
    ∷ gives_minus (long 1 (in_later 0x700003FC) Read) 8
    ∷ faults (long 1 (in_draft 0x800003FC) FastRead) 0xFFFFFFFF
    ∷ gives_minus (long 1 (in_draft 0x700003FE) Read) 8
    ∷ gives (long 2 (in_draft 0x80000400) Read) []
    ∷ gives_minus (long 2 (in_draft 0x70000400) Read) 8
    ∷ gives_minus (Data Io Word 2 (in_draft 0x100) Read) 2
    ∷ gives_minus (long 9 (in_draft 0x700003FC) Read) 9
    ∷ gives_minus (long 9 (in_edition 0x700003FC 0) Read) 2
    ∷ gives_minus (long 1 (in_edition 0x800003FC 0) (Write 0)) 2
    ∷ gives_minus (long 1 (in_edition 0x800003FC 3) (Write 0)) 2
    ∷ gives_minus (long 1 (in_edition 0x800003FC 0x102) (Write 0)) 2
    ∷ faults (Data Memory Word 1 (in_edition 0x800003FC 3) FastRead) 0xFFFF
    ∷ gives (long 1 (in_later 0x800003FC) Read) (0x11223344 ∷ [])
    ∷ [])

-- a window at FFFFFC00h with an offset of 400h: CPU address 0 is bus address FFFFFC00h
abbrev draft_wrapped : Run
draft_wrapped =
    on_board (b1_with (at 0x11 0xFC ∷ at 0x12 0xFF ∷ at 0x13 0xFF ∷ at 538 0x04 ∷ []) 0x11 0x06)
    (gives (long 1 (in_draft 0x00000000) (Write 0x11223344)) []
    ∷ gives (long 1 (in_later 0xFFFFFC00) Read) (0x11223344 ∷ [])
    ∷ gives (long 1 (in_draft 0x000003FC) (Write 0x55667788)) []
    ∷ gives (long 1 (in_later 0xFFFFFFFC) Read) (0x55667788 ∷ [])
    ∷ gives_minus (long 1 (in_draft 0x00000400) Read) 8
    ∷ gives_minus (long 1 (in_draft 0xFFFFFFFC) Read) 8
    ∷ gives_minus (long 1 (in_draft 0xFFFFFC00) Read) 8
    ∷ [])

abbrev pub draft_runs : List Run
draft_runs = draft_empty ∷ draft_searches ∷ draft_data ∷ draft_wrapped ∷ []

-- E2. B1 with 05h 04h (mask 05h), 06h B0h (mask 30h) and 07h F9h (mask F9h) at handle 1.
abbrev status_board : List ℕ
status_board =
    b1_with
    (at 0x05 0x04 ∷ at 0x06 0xB0 ∷ at 0x07 0xF9
    ∷ at 0x105 0x05 ∷ at 0x106 0x30 ∷ at 0x107 0xF9 ∷ [])
    0x11 0x63

-- a write through handle 1, and a read of its command and status
abbrev writes : Width → ℕ → ℕ → Row
writes width register value = gives (Config width 1 register (Write value)) []

abbrev shows : ℕ → Row
shows n = gives (Config Long 1 0x04 Read) (n ∷ [])

-- 1 clears a masked bit and 0 leaves it; 05h is no status; a longword at 04h writes command and
-- clears status; a reset brings the loaded status back
abbrev status_cleared : Run
status_cleared =
    on_board status_board
    (shows 0xF9B00403
    ∷ writes Word 0x06 0x2010 ∷ shows 0xD9A00403
    ∷ writes Word 0x06 0x0000 ∷ shows 0xD9A00403
    ∷ writes Byte 0x05 0xFF ∷ shows 0xD9A00503
    ∷ writes Long 0x04 0xFFFF0003 ∷ shows 0x00800003
    ∷ gives Reset [] ∷ shows 0xF9B00403
    ∷ [])

-- reads, refused writes, other registers and other functions clear nothing; a byte clears in its own
-- register; what was read clears all masked set bits, and no write sets one again; a load brings the
-- loaded status back
abbrev status_kept : Run
status_kept =
    on_board status_board
    (gives (Config Word 1 0x06 Read) (0xF9B0 ∷ [])
    ∷ gives (Config Word 1 0x06 FastRead) (0xF9B0 ∷ [])
    ∷ gives_minus (Config Word 1 0x07 (Write 0xFFFF)) 5
    ∷ gives_minus (Config Long 1 0x06 (Write 0xFFFFFFFF)) 5
    ∷ gives_minus (Config Word 3 0x06 (Write 0xFFFF)) 9
    ∷ gives (Config Word 2 0x06 (Write 0xFFFF)) []
    ∷ writes Byte 0x08 0xFF ∷ shows 0xF9B00403
    ∷ writes Byte 0x07 0x80 ∷ shows 0x79B00403
    ∷ writes Byte 0x06 0x10 ∷ shows 0x79A00403
    ∷ writes Word 0x04 0x0003 ∷ shows 0x79A00003
    ∷ writes Word 0x06 0x79A0 ∷ shows 0x00800003
    ∷ writes Word 0x06 0xFFFF ∷ shows 0x00800003
    ∷ loads status_board ∷ shows 0xF9B00403
    ∷ [])

abbrev pub status_runs : List Run
status_runs = status_cleared ∷ status_kept ∷ []

pub record RequestsTable : Type 0 where
  -- E1: drivers from draft 1.9
  pub call_edition : CallEditionRows
  pub draft_calls : EveryRow program_runs draft_runs
  -- E2: status bits clear by writing 1
  pub config_masked : ConfigMaskedRows
  pub status_calls : EveryRow program_runs status_runs
