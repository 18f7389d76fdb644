-- Runs: requests, responses, and what stands after them, of the program and of the reference
-- machine: document 01, "Runs and the book". `parts_of` joins the two: every lent part follows from
-- a reference state, so that claim 2 says of all of them, byte for byte, what they are.
use Rattle.std.specs.Prelude.{ℕ, zero, suc, ◌+◌, ◌*◌, ◌/◌, ◌%◌, List, [], ◌∷◌, ◌++◌, length, replicate}
use Rattle.numbers.specs.Tables.{table}
use Rattle.board.specs.Parts.{Parts, parts}
use Rattle.board.specs.Handles.{header_of}
use Rattle.board.specs.Layout.{
  header_size,
  functions_max,
  record_size,
  registers_each,
  windows_max,
  hook_size,
  mark_size,
}
use Rattle.window_list.specs.Kept.{kept_list}
use Rattle.interrupt_array.specs.Hooks.{last_line, packed}
use Rattle.interrupt_array.specs.declared.hooks.Hook.{Hook}
use Rattle.card_used.specs.Used.{marks_of}
use Rattle.cell_layout.specs.Cells.{offsets_of}
use Rattle.load.specs.Load.{padded}
use Rattle.call.specs.declared.answer.Answer.{Answer}
use Rattle.call.specs.declared.call.Call.{Call}
use Rattle.reference.specs.State.{Outcome, step}
use Rattle.reference.specs.Reference.{
  Reference,
  ReferenceOutcome,
  exponent_of,
  joined,
  windows_of,
  reference_step,
}

-- a call with its own buffer, and what comes back of both
pub record Request : Type 0 where
  pub call : Call
  pub own : List ℕ

pub record Response : Type 0 where
  pub answer : Answer
  pub own : List ℕ

abbrev pub request : Call → List ℕ → Request
request c own = record { call = c; own = own }

abbrev pub response : Answer → List ℕ → Response
response a own = record { answer = a; own = own }

-- the steps of both for a request
abbrev pub step_on : Parts → Request → Outcome
step_on p c = step p c.call c.own

abbrev pub reference_on : Reference → Request → ReferenceOutcome
reference_on b c = reference_step b c.call c.own

-- the program's run
unfoldable pub responses : Parts → List Request → List Response
responses p [] = []
responses p (c ∷ cs) =
    response (step_on p c).answer (step_on p c).own ∷ responses (step_on p c).parts cs

unfoldable pub parts_after : Parts → List Request → Parts
parts_after p [] = p
parts_after p (c ∷ cs) = parts_after (step_on p c).parts cs

-- the reference machine's run
unfoldable pub reference_responses : Reference → List Request → List Response
reference_responses b [] = []
reference_responses b (c ∷ cs) =
    response (reference_on b c).answer (reference_on b c).own
    ∷ reference_responses (reference_on b c).reference cs

unfoldable pub reference_after : Reference → List Request → Reference
reference_after b [] = b
reference_after b (c ∷ cs) = reference_after (reference_on b c).reference cs

-- the hooks of the first n lines, one line after the other
unfoldable pub line_by_line : (ℕ → List Hook) → ℕ → List Hook
line_by_line chains zero = []
line_by_line chains (suc n) = line_by_line chains n ++ chains n

-- the lent parts of a board that the reference machine describes: every part is a function of it
unfoldable pub parts_of : Reference → Parts
parts_of b =
    parts (header_of (length b.records)) (padded (joined b.records))
    (table (functions_max * registers_each)
    (λ j. b.registers (j / registers_each) (j % registers_each)))
    (kept_list (windows_of b)) (offsets_of (exponent_of b.records))
    (packed (line_by_line b.chains (last_line + 1)))
    (marks_of b.used) b.cells

-- the lent parts at the start, with any cells
unfoldable pub start : List ℕ → Parts
start cells =
    parts (replicate header_size 0)
    (replicate (functions_max * record_size) 0) (replicate (functions_max * registers_each) 0)
    (replicate windows_max 0) (replicate (windows_max + 1) 0)
    (replicate (functions_max * hook_size) 0) (replicate (functions_max * mark_size) 0) cells
