-- What scripts mean, without the proofs: docs/SCRIPT.md, "What is proved".
use Rattle.std.specs.Prelude.{ℕ, List, [], ◌∷◌, ◌++◌, ◌≡◌, None, length, drop}
use Rattle.reference.specs.Reference.{reference_start}
use Rattle.reference.specs.Run.{Request, reference_responses, reference_after, parts_of}
use Rattle.call_encoding.specs.Format.{encoded}
use Rattle.call_encoding.specs.Meaning.{U32, TypesHold}
use Rattle.script.specs.Script.{front, calls_in, stop_in, rendered, ran, run_of}

-- the script of calls with their own buffers
unfoldable pub script_of : List Request → List ℕ
script_of [] = []
script_of (c ∷ cs) = encoded c.call (length c.own) ++ (c.own ++ script_of cs)

abbrev pub TypesHoldAll : List Request → Type 0
TypesHoldAll [] = Unit {0}
TypesHoldAll (c ∷ cs) = (TypesHold c.call × U32 (length c.own)) × TypesHoldAll cs

-- a script is the script of its calls, and where it stops no call stands
pub record Covered (script : List ℕ) : Type 0 where
  pub calls : script ≡ script_of (calls_in script) ++ drop (stop_in script) script
  pub stop : front (drop (stop_in script) script) ≡ None

abbrev pub ScriptRead : Type 0
ScriptRead = (script : List ℕ) → Covered script

-- EVERY RUN IS A SCRIPT'S: what `run` leaves of the script of any calls that the types can hold are
-- the reference machine's answers to all of them, and its board
abbrev pub EveryRun : Type 0
EveryRun =
    (cs : List Request) (cells : List ℕ) → TypesHoldAll cs
    → run_of (script_of cs) cells
    ≡ ran (length (script_of cs)) (rendered (reference_responses (reference_start cells) cs))
    (parts_of (reference_after (reference_start cells) cs))
