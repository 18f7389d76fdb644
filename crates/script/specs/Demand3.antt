-- Demand 3 as a claim about code: document 01, "Runs and the book", of what `run` leaves of a
-- script and of the lent parts. The claims of the crate reference speak of steps; here they speak
-- of the bytes that come back from `run`, whose contract is `run_of`.
use Rattle.std.specs.Prelude.{ℕ, ◌+◌, true, cond, List, [], ◌∷◌, ◌++◌, ◌≡◌, length, take, drop}
use Rattle.board.specs.Parts.{Parts}
use Rattle.reference.specs.State.{Outcome}
use Rattle.reference.specs.Reference.{reference_start}
use Rattle.reference.specs.Run.{Request, step_on, parts_after, reference_after, start}
use Rattle.reference.specs.Claims.{Untouched, CallFramed, Unseen, struck_out, without_data_of}
use Rattle.call_encoding.specs.Format.{call_header_size, answer_bytes}
use Rattle.script.specs.Script.{calls_in, calls_bytes, run_of}
use Rattle.script.specs.Meaning.{EveryRun}

-- the bytes of a call in a script: its header and its own buffer
abbrev pub call_bytes : Request → ℕ
call_bytes c = call_header_size + length c.own

-- what stands in a script for a call after the calls before it
abbrev pub bytes_for : Request → List Request → List ℕ → List ℕ
bytes_for c before script = take (call_bytes c) (drop (calls_bytes before) script)

-- what stands there for all calls that are not struck out
unfoldable pub bytes_without_data_of : ℕ → List Request → List ℕ → List ℕ
bytes_without_data_of h [] script = []
bytes_without_data_of h (c ∷ cs) script =
    let rest = bytes_without_data_of h cs (drop (call_bytes c) script) in
    cond (struck_out h c.call) rest (take (call_bytes c) script ++ rest)

-- a call of a script, performed on the board that the calls before it leave: what `run` leaves in
-- its place is its answer and its own buffer; if it is refused nothing is touched, and else only
-- what it may touch
pub record TurnOf (cells script : List ℕ) (before : List Request) (c : Request) (p : Parts)
    (n : Outcome) : Type 0 where
  pub bytes : bytes_for c before (run_of script cells).script
      ≡ answer_bytes n.answer (length c.own) ++ n.own
  pub refusal : n.answer.refused ≡ true → Untouched p c.call c.own n
  pub frame : CallFramed (reference_after (reference_start cells) before) p c n

abbrev pub EveryTurn : Type 0
EveryTurn =
    (cells script : List ℕ) (before after : List Request) (c : Request)
    → calls_in script ≡ before ++ c ∷ after
    → TurnOf cells script before c (parts_after (start cells) before)
    (step_on (parts_after (start cells) before) c)

-- the board that `run` leaves is the one after the last turn
abbrev pub LastBoard : Type 0
LastBoard =
    (cells script : List ℕ)
    → (run_of script cells).parts ≡ parts_after (start cells) (calls_in script)

-- two scripts, equal once the data calls through h are struck out: what `run` leaves of every other
-- call is equal, and no call but those tells the boards apart
pub record ScriptsApart (h : ℕ) (cells s t : List ℕ) : Type 0 where
  pub answered : bytes_without_data_of h (calls_in s) (run_of s cells).script
      ≡ bytes_without_data_of h (calls_in t) (run_of t cells).script
  pub unseen : Unseen h (reference_after (reference_start cells) (calls_in s)).records
      (run_of s cells).parts (run_of t cells).parts

abbrev pub ScriptNonInterference : Type 0
ScriptNonInterference =
    (h : ℕ) (cells s t : List ℕ) → without_data_of h (calls_in s) ≡ without_data_of h (calls_in t)
    → ScriptsApart h cells s t

-- DEMAND 3 OF `run`, as one claim
pub record Demand3OfRun : Type 0 where
  pub every_run : EveryRun
  pub last_board : LastBoard
  pub every_turn : EveryTurn
  pub non_interference : ScriptNonInterference
