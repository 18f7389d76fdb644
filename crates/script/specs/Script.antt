-- Scripts: the calls of one, where it stops, and what a run leaves: docs/SCRIPT.md.
use Rattle.std.specs.Prelude.{ℕ, zero, suc, ◌+◌, ◌-◌, cond, List, [], ◌∷◌, ◌++◌, Option, None, Some, ltb, length, take, drop}
use Rattle.board.specs.Parts.{Parts}
use Rattle.call.specs.declared.call.Call.{Call}
use Rattle.reference.specs.Reference.{reference_start}
use Rattle.reference.specs.State.{step}
use Rattle.reference.specs.Run.{
  Request,
  Response,
  request,
  reference_responses,
  reference_after,
  parts_of,
}
use Rattle.call_encoding.specs.declared.decode.Decoded.{Decoded}
use Rattle.call_encoding.specs.Format.{call_header_size, decoded, answer_bytes}

-- a call's own buffer fits into what remains, or the call is malformed
abbrev pub fitting : ℕ → Option Decoded → Option Decoded
fitting room (Some d) = cond (ltb room d.own) None (Some d)
fitting room None = None

-- the call at the front of a script
unfoldable pub front : List ℕ → Option Decoded
front l =
    cond (ltb (length l) call_header_size) None
    (fitting (length l - call_header_size) (decoded (take call_header_size l)))

abbrev pub on_call : {A : Type 0} → Option Decoded → (Call → ℕ → A) → A → A
on_call (Some d) f x = f d.call d.own
on_call None f x = x

-- the own buffer of the call at the front
abbrev pub own_bytes : ℕ → List ℕ → List ℕ
own_bytes own l = take own (drop call_header_size l)

-- the calls from the front up to the first malformed one, n at most
unfoldable pub calls_from : ℕ → List ℕ → List Request
calls_from zero l = []
calls_from (suc n) l =
    on_call (front l)
    (λ c own. request c (own_bytes own l) ∷ calls_from n (drop (call_header_size + own) l)) []

-- a script has no more calls than bytes
abbrev pub calls_in : List ℕ → List Request
calls_in script = calls_from (length script) script

-- the bytes that calls take
unfoldable pub calls_bytes : List Request → ℕ
calls_bytes [] = 0
calls_bytes (c ∷ cs) = call_header_size + length c.own + calls_bytes cs

-- the position of the first malformed call, or the script's length
abbrev pub stop_in : List ℕ → ℕ
stop_in script = calls_bytes (calls_in script)

-- answers over the headers, own buffers where they stood
unfoldable pub rendered : List Response → List ℕ
rendered [] = []
rendered (h ∷ hs) = answer_bytes h.answer (length h.own) ++ (h.own ++ rendered hs)

-- the position handed back, the script and the lent parts
pub record Ran : Type 0 where
  pub position : ℕ
  pub script : List ℕ
  pub parts : Parts

abbrev pub ran : ℕ → List ℕ → Parts → Ran
ran position script p = record { position = position; script = script; parts = p }

-- the bytes that the call at the front takes, none where it is malformed; the script and the lent
-- parts
pub record Turned : Type 0 where
  pub took : Option ℕ
  pub script : List ℕ
  pub parts : Parts

abbrev pub turned : Option ℕ → List ℕ → Parts → Turned
turned took script p = record { took = took; script = script; parts = p }

-- the call at the front performed in place; where it is malformed nothing changes
unfoldable pub turn_of : Parts → List ℕ → Turned
turn_of p l =
    on_call (front l)
    (λ c own.
    let n = step p c (own_bytes own l) in
    turned (Some (call_header_size + own))
    (answer_bytes n.answer own ++ (n.own ++ drop (call_header_size + own) l)) n.parts)
    (turned None l p)

-- THE CONTRACT OF RUN, in the reference machine's words
unfoldable pub run_of : List ℕ → List ℕ → Ran
run_of script cells =
    let calls = calls_in script in
    let b = reference_start cells in
    ran (stop_in script) (rendered (reference_responses b calls) ++ drop (stop_in script) script)
    (parts_of (reference_after b calls))
