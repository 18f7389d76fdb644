-- The proved cases, one table under one sentence: document 01, "Board B1 and its cases". Every case
-- but P13, which is of the byte-order rule alone, begins with the load of B1's image, so that the
-- answers are worked out from its bytes.
use Rattle.std.specs.Prelude.{ℕ, List, [], ◌∷◌, ◌++◌, map, ◌≡◌, pos, length, replicate}
use Rattle.numbers.specs.Numbers.{big_bytes}
use Rattle.board.specs.Statuses.{number_of, successful, device_not_found, general_error}
use Rattle.numbers.specs.declared.number.Width.TheVariants.{Byte, Long}
use Rattle.call_edition.specs.Edition.{in_later}
use Rattle.data_cells.specs.Cells.{cells_value}
use Rattle.data_order.specs.Orders.{cell_distance}
use Rattle.board.specs.declared.space.Space.TheVariants.{Memory}
use Rattle.call.specs.declared.answer.Answer.{Answer}
use Rattle.call.specs.declared.call.Call.{Call}
use Rattle.call.specs.declared.call.Access.TheVariants.{Read, Write}
use Rattle.call.specs.declared.call.Call.TheVariants.{
  Load,
  Config,
  Data,
  GetResource,
  HookInterrupt,
  Ask,
}
use Rattle.call.specs.declared.call.Query.TheVariants.{
  FindPciDevice,
  FindPciClasscode,
  ListChain,
  ListWindow,
}
use Rattle.call.specs.Answers.{answer, zeros, one, of_status, of_search, of_chain}
use Rattle.reference.specs.Reference.{reference_start}
use Rattle.reference.specs.Run.{
  Request,
  Response,
  request,
  response,
  responses,
  start,
  reference_responses,
}
use Rattle.proved_cases.specs.B1.{b1}

-- a value that cells at the start of a window give in a byte order
pub record Reading : Type 0 where
  pub order : ℕ
  pub width : ℕ
  pub value : ℕ

abbrev pub reading : ℕ → ℕ → ℕ → Reading
reading order width value = record { order = order; width = width; value = value }

-- a case: calls, each without a buffer of its own, and the answers that they give on a fresh B1;
-- a call with a buffer of zeros, and the bytes that it leaves there;
-- or cells, and what is read of them
pub data Case : Type 0 where
  case : List Call → List Answer → Case
  buffer : Call → List ℕ → Case
  cells : List ℕ → List Reading → Case

-- a handle found; a number and a value; a window listed
abbrev pub found_handle : ℕ → Answer
found_handle handle = of_search (pos handle)

abbrev pub value : ℕ → Answer
value v = answer (number_of successful) (one v)

abbrev pub window_answer : ℕ → ℕ → ℕ → ℕ → ℕ → ℕ → Answer
window_answer space start length handle base contested =
    answer (number_of successful) (space ∷ start ∷ length ∷ handle ∷ base ∷ contested ∷ [])

-- a hook listed; the bytes of a descriptor: next (20), flags, start, length, and both offsets 0
abbrev pub chained : ℕ → ℕ → ℕ → Answer
chained handle handler parameter = of_chain (number_of successful) (handle ∷ handler ∷ parameter ∷ [])

abbrev pub descriptor : ℕ → ℕ → ℕ → List ℕ
descriptor flags start length =
    big_bytes 2 20
    ++ (big_bytes 2 flags ++ (big_bytes 4 start ++ (big_bytes 4 length ++ replicate 8 0)))

-- the three windows of B1, with the start of handle 2's memory window and the mark of both
abbrev pub list_answers : ℕ → ℕ → List Answer
list_answers start contested =
    window_answer 0 0x80000000 0x400 1 0 contested
    ∷ window_answer 0 start 0x400 2 0 contested
    ∷ window_answer 1 0x100 0x10 2 1 0
    ∷ of_status device_not_found
    ∷ []

abbrev pub list_calls : List Call
list_calls = Ask (ListWindow 0) ∷ Ask (ListWindow 1) ∷ Ask (ListWindow 2) ∷ Ask (ListWindow 3) ∷ []

-- the window list of B1, and document 01's cases
abbrev pub b1_list : Case
b1_list = case list_calls (list_answers 0x80000400 0)

abbrev pub p1 : Case
p1 = case (Ask (FindPciDevice (in_later 0x00010F0F) 1) ∷ []) (found_handle 2 ∷ [])

abbrev pub p2 : Case
p2 = case (Ask (FindPciDevice (in_later 0x00010F0F) 2) ∷ []) (of_status device_not_found ∷ [])

abbrev pub p3 : Case
p3 = case (Ask (FindPciDevice (in_later 0x0000FFFF) 0) ∷ []) (found_handle 1 ∷ [])

abbrev pub p4 : Case
p4 = case (Ask (FindPciClasscode (in_later 0x01118055) 0) ∷ []) (found_handle 1 ∷ [])

abbrev pub p5 : Case
p5 = case (Ask (FindPciClasscode (in_later 0x00118055) 0) ∷ []) (of_status device_not_found ∷ [])

abbrev pub p6 : Case
p6 =
    case (Config Long 1 0x10 (Write 0xFFFFFFFF) ∷ Config Long 1 0x10 Read ∷ [])
    (of_status successful ∷ value 0xFFFFFC00 ∷ [])

abbrev pub p7 : Case
p7 =
    case (Config Byte 1 0x11 (Write 0x12) ∷ Config Long 1 0x10 Read ∷ [])
    (of_status successful ∷ value 0x80001000 ∷ [])

abbrev pub p8 : Case
p8 =
    case (Config Long 2 0x14 (Write 0xFFFFFFFF) ∷ Config Long 2 0x14 Read ∷ [])
    (of_status successful ∷ value 0xFFFFFFF1 ∷ [])

-- one longword past the end of handle 1's window, and its last
abbrev pub p9 : Case
p9 =
    case (Data Memory Long 1 (in_later 0x80000400) (Write 1) ∷ [])
    (of_status general_error ∷ [])

abbrev pub p10 : Case
p10 =
    case (Data Memory Long 1 (in_later 0x800003FC) (Write 1) ∷ [])
    (of_status successful ∷ [])

abbrev pub p11 : Case
p11 =
    case
    (Config Long 2 0x10 (Write 0x80000000) ∷ list_calls
    ++ Config Long 2 0x10 (Write 0x80000400) ∷ list_calls)
    (of_status successful ∷ list_answers 0x80000000 1
    ++ of_status successful ∷ list_answers 0x80000400 0)

abbrev pub p12 : Case
p12 = buffer (GetResource 2) (descriptor 0x0701 0x80000400 0x400 ++ descriptor 0xC102 0x100 0x10)

abbrev pub p13 : Case
p13 =
    cells (0x11 ∷ 0x22 ∷ 0x33 ∷ 0x44 ∷ [])
    (reading 1 2 0x3344 ∷ reading 1 1 0x44 ∷ reading 2 4 0x44332211 ∷ [])

-- handlers and parameters of any kind
abbrev pub p14 : Case
p14 =
    case
    (HookInterrupt 2 0x2000 7 ∷ HookInterrupt 1 0x1000 8
    ∷ Ask (ListChain 5 0) ∷ Ask (ListChain 5 1) ∷ Ask (ListChain 5 2) ∷ [])
    (of_status successful ∷ of_status successful
    ∷ chained 2 0x2000 7 ∷ chained 1 0x1000 8 ∷ of_status device_not_found ∷ [])

abbrev pub case_table : List Case
case_table = b1_list ∷ p1 ∷ p2 ∷ p3 ∷ p4 ∷ p5 ∷ p6 ∷ p7 ∷ p8 ∷ p9 ∷ p10 ∷ p11 ∷ p12 ∷ p13 ∷ p14 ∷ []

-- what a machine answers to calls from the start, with B1's 2,064 cells
abbrev pub Machine : Type 0
Machine = List Request → List Response

abbrev pub cells2064 : List ℕ
cells2064 = replicate 2064 0

abbrev pub program_machine : Machine
program_machine = responses (start cells2064)

abbrev pub reference_machine : Machine
reference_machine = reference_responses (reference_start cells2064)

-- a case holds of a machine that loads B1 and then gives its answers; a reading where the
-- byte-order rule gives it
abbrev pub Holds : Machine → Case → Type 0
Holds m (case calls answers) =
    m (request Load b1 ∷ map (λ call. request call []) calls)
    ≡ response (of_status successful) b1 ∷ map (λ a. response a []) answers
Holds m (buffer call left) =
    m (request Load b1 ∷ request call (replicate (length left) 0) ∷ [])
    ≡ response (of_status successful) b1 ∷ response (of_status successful) left ∷ []
Holds m (cells l readings) =
    map (λ r. cells_value r.order r.width (cell_distance r.order r.width 0) l) readings
    ≡ map (λ r. r.value) readings

abbrev pub EveryCase : Machine → List Case → Type 0
EveryCase m [] = Unit {0}
EveryCase m (c ∷ cs) = Holds m c × EveryCase m cs

-- THE PROVED CASES: every row of the table holds of the program's step and of the reference machine
pub record ProvedCases : Type 0 where
  pub program : EveryCase program_machine case_table
  pub reference : EveryCase reference_machine case_table

-- with one cell less B1 is refused with 8
abbrev pub B1Short : Type 0
B1Short =
    responses (start (replicate 2063 0)) (request Load b1 ∷ [])
    ≡ response (answer (pos 8) zeros) b1 ∷ []
