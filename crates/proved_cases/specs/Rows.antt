-- Rows of calls from a fresh board, for what P1 to P14 leave open. They are a part of the second
-- table (SecondTable.antt). Every number handed back is written as document 01 has it, and not by
-- its name.
use Rattle.std.specs.Prelude.{ℕ, Bool, true, false, List, [], ◌∷◌, ◌++◌, map, ◌≡◌, ℤ, pos, neg_ℤ, replicate, take}
use Rattle.board.specs.Addresses.{bus, cpu}
use Rattle.board.specs.declared.space.Space.TheVariants.{Memory, Io}
use Rattle.numbers.specs.declared.number.Width.{Width}
use Rattle.numbers.specs.declared.number.Width.TheVariants.{Byte, Word, Long}
use Rattle.call_edition.specs.Edition.{in_later}
use Rattle.call.specs.declared.answer.Answer.{Answer}
use Rattle.call.specs.declared.call.Call.{Call}
use Rattle.call.specs.declared.call.Access.{Access}
use Rattle.call.specs.declared.call.Access.TheVariants.{Read, FastRead, Write}
use Rattle.call.specs.declared.call.Call.TheVariants.{
  Load,
  Reset,
  WriteImage,
  Config,
  Data,
  GetResource,
  HookInterrupt,
  UnhookInterrupt,
  SetCardUsed,
  Ask,
}
use Rattle.call.specs.declared.call.Query.{Query}
use Rattle.call.specs.declared.call.Query.TheVariants.{
  FindPciDevice,
  FindPciClasscode,
  BusToCpu,
  CpuToBus,
  ListChain,
  GetCardUsed,
  SpecialCycle,
  GetRouting,
  SetInterrupt,
  ListWindow,
}
use Rattle.reference.specs.Reference.{reference_start}
use Rattle.reference.specs.Run.{
  Request,
  Response,
  request,
  response,
  responses,
  start,
  reference_responses,
}
use Rattle.proved_cases.specs.B1.{at}
use Rattle.proved_cases.specs.SmallBoard.{image_with, small_image}

-- a call with its own buffer, and what comes back
pub record Row : Type 0 where
  pub call : Call
  pub own : List ℕ
  pub answer : Answer
  pub left : List ℕ

-- an answer: the number, whether it refuses, and the values, zeros after them
abbrev pub said : ℤ → Bool → List ℕ → Answer
said number refused values =
    record { number = number; refused = refused; values = take 6 (values ++ replicate 6 0) }

-- a call without a buffer of its own
abbrev pub row : Call → Answer → Row
row c a = record { call = c; own = []; answer = a; left = [] }

abbrev pub gives : Call → List ℕ → Row
gives c values = row c (said (pos 0) false values)

abbrev pub gives_minus : Call → ℕ → Row
gives_minus c n = row c (said (neg_ℤ (pos n)) true [])

-- a search finds a handle; a refused fast read gives all ones and no number
abbrev pub finds : Query → ℕ → Row
finds q handle = row (Ask q) (said (pos handle) false [])

abbrev pub faults : Call → ℕ → Row
faults c ones = row c (said (pos 0) true (ones ∷ []))

-- with a buffer: what it holds before and after
abbrev pub leaves : Call → List ℕ → ℤ → Bool → List ℕ → Row
leaves c own number refused left =
    record { call = c; own = own; answer = said number refused []; left = left }

-- a load that is refused, with a place
abbrev pub load_gives : List ℕ → ℕ → ℕ → Row
load_gives image number place =
    record {
      call = Load;
      own = image;
      answer = said (pos number) true (place ∷ []);
      left = image;
    }

abbrev pub loads : List ℕ → Row
loads image = leaves Load image (pos 0) false image

-- calls one after the other from the start, with these cells
pub record Run : Type 0 where
  pub cells : List ℕ
  pub rows : List Row

abbrev pub run : List ℕ → List Row → Run
run cells rows = record { cells = cells; rows = rows }

abbrev pub row_request : Row → Request
row_request r = request r.call r.own

abbrev pub row_response : Row → Response
row_response r = response r.answer r.left

-- cells that hold AAh, more or fewer than the small board's 20
abbrev pub dirty : ℕ → List ℕ
dirty n = replicate n 0xAA

abbrev pub on_small : List Row → Run
on_small rows = run (dirty 21) (loads small_image ∷ rows)

-- a query that is answered
abbrev pub ask : Query → List ℕ → Row
ask q values = gives (Ask q) values

-- before the first load: every handle is bad, -9 before -5 and -8, and the writer gives 1 before 3
abbrev pub before_load : Run
before_load =
    run (dirty 21)
    (gives_minus (Ask (FindPciDevice (in_later 0x0000FFFF) 0)) 4
    ∷ gives_minus (Ask (ListWindow 0)) 4
    ∷ gives_minus (Ask (ListChain 15 0)) 4
    ∷ gives_minus (Ask (ListChain 16 0)) 8
    ∷ gives_minus (Config Word 1 1 Read) 9
    ∷ faults (Config Word 1 0 FastRead) 0xFFFF
    ∷ gives_minus (Config Byte 0 0 (Write 1)) 9
    ∷ gives_minus (Data Memory Long 1 (in_later 1) Read) 9
    ∷ gives_minus (GetResource 1) 9
    ∷ gives_minus (HookInterrupt 1 1 1) 9
    ∷ gives_minus (UnhookInterrupt 1) 9
    ∷ gives_minus (SetCardUsed 1 4 0) 9
    ∷ gives_minus (Ask (GetCardUsed 1)) 9
    ∷ gives_minus (Ask (BusToCpu 1 (bus 7))) 9
    ∷ gives_minus (Ask (CpuToBus 1 (cpu 7))) 9
    ∷ gives_minus (Ask (SpecialCycle 1 2)) 2
    ∷ gives_minus (Ask (GetRouting 1)) 2
    ∷ gives_minus (Ask (SetInterrupt 1 2)) 2
    ∷ gives Reset []
    ∷ leaves WriteImage (dirty 11) (pos 1) true (dirty 11)
    ∷ leaves WriteImage (dirty 12) (pos 3) true (dirty 12)
    ∷ [])

-- a trailer alone: the low byte of the distance, the count, the edition
abbrev pub trailer_with : ℕ → ℕ → ℕ → List ℕ
trailer_with distance count edition =
    0 ∷ 0 ∷ 0 ∷ distance ∷ 0 ∷ count ∷ 0 ∷ edition ∷ 0 ∷ 0 ∷ 0 ∷ 1 ∷ []

-- load refusals, each where the next one applies too; with 6 the place, 0 with all others. The
-- vendor FFFFh makes the sum 4,475; two windows of k 16 make it 2,559.
abbrev pub refused_loads : Run
refused_loads =
    let vendor = at 0x00 0xFF ∷ at 0x01 0xFF ∷ [] in
    let large =
    at 512 16 ∷ at 0x10 0x08 ∷ at 0x11 0 ∷ at 0x110 0 ∷ at 0x111 0
    ∷ at 516 16 ∷ at 0x14 0x01 ∷ at 0x15 0 ∷ at 0x114 0 ∷ at 0x115 0 ∷ [] in
    run (dirty 19)
    (load_gives (take 11 (trailer_with 13 0 2)) 1 0
    ∷ load_gives (trailer_with 13 0 2) 2 0
    ∷ load_gives (trailer_with 13 0 1) 3 0
    ∷ load_gives (trailer_with 13 17 1) 3 0
    ∷ load_gives (trailer_with 13 1 1) 4 0
    ∷ load_gives (image_with vendor 0x0F 0xC3) 5 0
    ∷ load_gives (image_with vendor 0x11 0x7B) 6 0
    ∷ load_gives (image_with large 0x09 0xFF) 7 0
    ∷ load_gives small_image 8 0
    ∷ gives_minus (Ask (FindPciDevice (in_later 0x0000FFFF) 0)) 4
    ∷ [])

-- searches: both sides of the index; vendor FFFFh with any device ID; device FFFFh; the class bits
-- 24, 25 and 26 each alone against the one byte that differs, and bits 31 to 27
abbrev pub search_calls : Run
search_calls =
    on_small
    (finds (FindPciDevice (in_later 0x56781234) 0) 1
    ∷ gives_minus (Ask (FindPciDevice (in_later 0x56781234) 1)) 4
    ∷ gives_minus (Ask (FindPciDevice (in_later 0x56781234) 0xFFFFFFFF)) 4
    ∷ finds (FindPciDevice (in_later 0x1234FFFF) 0) 1
    ∷ gives_minus (Ask (FindPciDevice (in_later 0x1234FFFF) 1)) 4
    ∷ gives_minus (Ask (FindPciDevice (in_later 0xFFFF1234) 0)) 4
    ∷ gives_minus (Ask (FindPciDevice (in_later 0x12345678) 0)) 4
    ∷ finds (FindPciClasscode (in_later 0x00118001) 0) 1
    ∷ finds (FindPciClasscode (in_later 0xF8118001) 0) 1
    ∷ finds (FindPciClasscode (in_later 0x01118002) 0) 1
    ∷ gives_minus (Ask (FindPciClasscode (in_later 0xFE118002) 0)) 4
    ∷ finds (FindPciClasscode (in_later 0x02118101) 0) 1
    ∷ gives_minus (Ask (FindPciClasscode (in_later 0xFD118101) 0)) 4
    ∷ finds (FindPciClasscode (in_later 0x04128001) 0) 1
    ∷ gives_minus (Ask (FindPciClasscode (in_later 0xFB128001) 0)) 4
    ∷ [])

-- the two windows as they are listed
abbrev pub memory_window : List ℕ
memory_window = 0 ∷ 0xFFFFFFF0 ∷ 0x10 ∷ 1 ∷ 0 ∷ 0 ∷ []

abbrev pub io_window : List ℕ
io_window = 1 ∷ 0x104 ∷ 4 ∷ 1 ∷ 1 ∷ 0 ∷ []

-- a descriptor of the small board: flags, the start's highest and two lowest bytes, the length
abbrev pub small_descriptor : ℕ → ℕ → ℕ → ℕ → ℕ → ℕ → List ℕ
small_descriptor high low top third least length =
    0 ∷ 20 ∷ high ∷ low
    ∷ top ∷ top ∷ third ∷ least
    ∷ 0 ∷ 0 ∷ 0 ∷ length
    ∷ 0xF0 ∷ 0 ∷ 0 ∷ 0x10
    ∷ 0 ∷ 0 ∷ 0 ∷ 7 ∷ []

-- the window listing up to its end; conversions that wrap each way; descriptors with a buffer that
-- is a byte short and one that is a byte longer; the calls that always give -2
abbrev pub listing_calls : Run
listing_calls =
    on_small
    (ask (ListWindow 0) memory_window
    ∷ ask (ListWindow 1) io_window
    ∷ gives_minus (Ask (ListWindow 2)) 4
    ∷ gives_minus (Ask (ListWindow 0xFFFFFFFF)) 4
    ∷ ask (BusToCpu 1 (bus 0x0FFFFFEF)) (0xFFFFFFFF ∷ [])
    ∷ ask (BusToCpu 1 (bus 0x0FFFFFF0)) (0 ∷ [])
    ∷ ask (BusToCpu 1 (bus 0xFFFFFFF0)) (0xF0000000 ∷ [])
    ∷ ask (CpuToBus 1 (cpu 0x00000010)) (0x10000000 ∷ [])
    ∷ ask (CpuToBus 1 (cpu 0xF0000000)) (0xFFFFFFF0 ∷ [])
    ∷ gives_minus (Ask (BusToCpu 2 (bus 1))) 9
    ∷ gives_minus (Ask (CpuToBus 0 (cpu 1))) 9
    ∷ leaves (GetResource 1) (dirty 39) (neg_ℤ (pos 7)) true (dirty 39)
    ∷ leaves (GetResource 1) (dirty 41) (pos 0) false
    (small_descriptor 0x03 0x01 0xFF 0xFF 0xF0 0x10
    ++ (small_descriptor 0xC4 0x0F 0 0x01 0x04 4 ++ dirty 1))
    ∷ gives_minus (GetResource 2) 9
    ∷ gives_minus (Ask (SpecialCycle 1 2)) 2
    ∷ gives_minus (Ask (GetRouting 2)) 2
    ∷ gives_minus (Ask (SetInterrupt 2 3)) 2
    ∷ [])

-- a data call through handle 1
abbrev pub memory_call : ℕ → Width → Access → Call
memory_call address width access = Data Memory width 1 (in_later address) access

abbrev pub io_call : ℕ → Width → Access → Call
io_call address width access = Data Io width 1 (in_later address) access

-- a loaded cell is 0; the last cell of a window that ends at 2^32, and address 0; each refusal, -8
-- before -2; order 1 in words and bytes, order 15 in longwords; the low byte of a value; fast reads
abbrev pub data_calls : Run
data_calls =
    on_small
    (gives (memory_call 0xFFFFFFF0 Byte Read) []
    ∷ gives (memory_call 0xFFFFFFFF Byte Read) []
    ∷ gives_minus (memory_call 0xFFFFFFEF Byte Read) 8
    ∷ gives_minus (memory_call 0x00000000 Byte Read) 8
    ∷ gives_minus (memory_call 0xFFFFFFF1 Word Read) 8
    ∷ gives_minus (memory_call 0xFFFFFFF2 Long Read) 8
    ∷ gives_minus (memory_call 0xFFFFFFF0 Long Read) 2
    ∷ gives_minus (memory_call 0x00000104 Long Read) 8
    ∷ gives_minus (Data Memory Byte 2 (in_later 0xFFFFFFF0) Read) 9
    ∷ gives (memory_call 0xFFFFFFF0 Word (Write 0xABCD)) []
    ∷ gives (memory_call 0xFFFFFFF0 Word Read) (0xABCD ∷ [])
    ∷ gives (memory_call 0xFFFFFFF0 Word FastRead) (0xABCD ∷ [])
    ∷ gives (memory_call 0xFFFFFFF0 Byte Read) (0xCD ∷ [])
    ∷ gives (memory_call 0xFFFFFFF1 Byte Read) (0xAB ∷ [])
    ∷ gives (memory_call 0xFFFFFFF2 Byte Read) []
    ∷ gives (memory_call 0xFFFFFFFF Byte (Write 0x1EE)) []
    ∷ gives (memory_call 0xFFFFFFFF Byte Read) (0xEE ∷ [])
    ∷ gives (memory_call 0xFFFFFFFE Word Read) (0xEE00 ∷ [])
    ∷ gives (io_call 0x104 Long (Write 0x11223344)) []
    ∷ gives (io_call 0x104 Long Read) (0x11223344 ∷ [])
    ∷ gives_minus (io_call 0x104 Byte Read) 2
    ∷ gives_minus (io_call 0x105 Long (Write 1)) 8
    ∷ gives_minus (io_call 0x108 Long (Write 1)) 8
    ∷ gives_minus (io_call 0x100 Long (Write 1)) 8
    ∷ faults (io_call 0x104 Byte FastRead) 0xFF
    ∷ faults (io_call 0x105 Word FastRead) 0xFFFF
    ∷ faults (io_call 0x108 Long FastRead) 0xFFFFFFFF
    ∷ [])

-- registers and windows: each command bit alone; a base register that is not 0 with start 0; closed
-- windows in descriptors; masks; -5, and -9 before it; reset
abbrev pub register_calls : Run
register_calls =
    on_small
    (gives (Config Byte 1 0x04 (Write 0x01)) []
    ∷ ask (ListWindow 0) io_window
    ∷ gives_minus (Ask (ListWindow 1)) 4
    ∷ gives_minus (memory_call 0xFFFFFFF0 Byte Read) 8
    ∷ gives (Config Byte 1 0x04 (Write 0x02)) []
    ∷ ask (ListWindow 0) memory_window
    ∷ gives_minus (Ask (ListWindow 1)) 4
    ∷ gives_minus (io_call 0x104 Long Read) 8
    ∷ gives (Config Byte 1 0x04 (Write 0xFC)) []
    ∷ gives_minus (Ask (ListWindow 0)) 4
    ∷ leaves (GetResource 1) (dirty 40) (pos 0) false
    (small_descriptor 0x03 0x01 0 0 0 0x10 ++ small_descriptor 0xC4 0x0F 0 0 0 4)
    ∷ gives (Config Byte 1 0x04 (Write 0xFF)) []
    ∷ gives (Config Word 1 0x04 Read) (0x0003 ∷ [])
    ∷ gives (Config Long 1 0x10 (Write 0)) []
    ∷ gives (Config Long 1 0x10 Read) (0x00000008 ∷ [])
    ∷ ask (ListWindow 0) io_window
    ∷ gives_minus (memory_call 0x00000000 Byte Read) 8
    ∷ gives (Config Long 1 0x14 (Write 0)) []
    ∷ gives (Config Long 1 0x14 Read) (0x00000001 ∷ [])
    ∷ gives_minus (Ask (ListWindow 0)) 4
    ∷ gives Reset []
    ∷ gives (Config Long 1 0x10 Read) (0xFFFFFFF8 ∷ [])
    ∷ ask (ListWindow 1) io_window
    ∷ gives_minus (Config Word 1 0x01 Read) 5
    ∷ gives_minus (Config Long 1 0x02 Read) 5
    ∷ gives_minus (Config Long 2 0x02 (Write 0)) 9
    ∷ faults (Config Long 1 0x02 FastRead) 0xFFFFFFFF
    ∷ gives (Config Long 1 0x00 FastRead) (0x56781234 ∷ [])
    ∷ gives (Config Byte 1 0xFF (Write 0xFF)) []
    ∷ gives (Config Byte 1 0xFF Read) []
    ∷ [])

-- hooks and marks: line 15, lines above it, hooked twice, not hooked, no rerouting, hooked again;
-- used 0 to 4 with a call-back; a refused load leaves them, a reset clears them
abbrev pub hook_and_mark_calls : Run
hook_and_mark_calls =
    on_small
    (gives_minus (UnhookInterrupt 1) 8
    ∷ gives_minus (UnhookInterrupt 2) 9
    ∷ gives_minus (Ask (ListChain 15 0)) 4
    ∷ gives_minus (Ask (ListChain 16 0)) 8
    ∷ gives_minus (Ask (ListChain 255 0)) 8
    ∷ gives_minus (HookInterrupt 2 0x11 0x22) 9
    ∷ gives (HookInterrupt 1 0x11 0x22) []
    ∷ gives_minus (HookInterrupt 1 0x33 0x44) 6
    ∷ ask (ListChain 15 0) (1 ∷ 0x11 ∷ 0x22 ∷ [])
    ∷ gives_minus (Ask (ListChain 15 1)) 4
    ∷ gives (Config Byte 1 0x3C (Write 14)) []
    ∷ ask (ListChain 15 0) (1 ∷ 0x11 ∷ 0x22 ∷ [])
    ∷ gives_minus (Ask (ListChain 14 0)) 4
    ∷ gives (UnhookInterrupt 1) []
    ∷ gives_minus (Ask (ListChain 15 0)) 4
    ∷ gives (HookInterrupt 1 0x33 0x44) []
    ∷ ask (ListChain 15 0) (1 ∷ 0x33 ∷ 0x44 ∷ [])
    ∷ ask (GetCardUsed 1) []
    ∷ gives (SetCardUsed 1 1 0xCC) []
    ∷ ask (GetCardUsed 1) (1 ∷ 0 ∷ [])
    ∷ gives (SetCardUsed 1 3 0xCC) []
    ∷ ask (GetCardUsed 1) (3 ∷ 0 ∷ [])
    ∷ gives (SetCardUsed 1 2 0xCC) []
    ∷ ask (GetCardUsed 1) (2 ∷ 0xCC ∷ [])
    ∷ gives_minus (SetCardUsed 1 4 0xDD) 8
    ∷ gives_minus (SetCardUsed 2 4 0xDD) 9
    ∷ gives_minus (Ask (GetCardUsed 2)) 9
    ∷ load_gives (dirty 11) 1 0
    ∷ ask (GetCardUsed 1) (2 ∷ 0xCC ∷ [])
    ∷ ask (ListChain 15 0) (1 ∷ 0x33 ∷ 0x44 ∷ [])
    ∷ gives (SetCardUsed 1 0 0xDD) []
    ∷ ask (GetCardUsed 1) []
    ∷ gives (SetCardUsed 1 2 0xDD) []
    ∷ gives Reset []
    ∷ ask (GetCardUsed 1) []
    ∷ gives_minus (Ask (ListChain 15 0)) 4
    ∷ [])

-- the writer: a byte short; the loaded values, not the current ones; output past the image stays
abbrev pub writer_calls : Run
writer_calls =
    on_small
    (leaves WriteImage (dirty 555) (pos 1) true (dirty 555)
    ∷ gives (Config Byte 1 0x3C (Write 3)) []
    ∷ leaves WriteImage (dirty 557) (pos 0) false (small_image ++ dirty 1)
    ∷ [])

abbrev pub run_table : List Run
run_table =
    before_load ∷ refused_loads ∷ search_calls ∷ listing_calls ∷ data_calls ∷ register_calls
    ∷ hook_and_mark_calls ∷ writer_calls ∷ []

-- what a machine answers from the start with any cells
abbrev pub CellsMachine : Type 0
CellsMachine = List ℕ → List Request → List Response

abbrev pub EveryRow : CellsMachine → List Run → Type 0
EveryRow m [] = Unit {0}
EveryRow m (r ∷ rs) =
    (m r.cells (map row_request r.rows) ≡ map row_response r.rows) × EveryRow m rs

-- the program's step, and the reference machine
abbrev pub program_runs : CellsMachine
program_runs cells = responses (start cells)

abbrev pub reference_runs : CellsMachine
reference_runs cells = reference_responses (reference_start cells)
