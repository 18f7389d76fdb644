-- What scripts mean: their calls are read as they were written, and nothing else is read.
use Prim.Native.Nat.{ℕ, zero, suc, ◌+◌, ◌≤◌}
use native.Mathlib.Omega.{arith}
use mathlib.Core.List.{List, [], ◌∷◌, ◌++◌, append_assoc, append-nil}
use mathlib.Core.Path.{◌≡◌, refl, sym, ap, ◌∙◌}
use lib.ListN.{length, take, drop, length-append, length-drop, take-append-drop}
use lib.Seq.{take_at, drop_at, drop-drop, drop-length}
use Rattle.numbers.specs.Tables.{table_from}
use Rattle.call.specs.declared.call.Call.{Call}
use Rattle.reference.specs.Reference.{reference_start}
use Rattle.reference.specs.Run.{Request, reference_responses, reference_after, parts_of}
use Rattle.call_encoding.specs.declared.decode.Decoded.{Decoded}
use Rattle.std.specs.Prelude.{Option, None, Some}
use Rattle.call_encoding.specs.declared.fields.Fields.{Fields}
use Rattle.call_encoding.specs.Format.{call_header_size, known, call_header, encoded}
use Rattle.script.specs.Script.{front, own_bytes, calls_from, calls_bytes, rendered, ran, run_of}
use Rattle.call_encoding.specs.Meaning.{U32, TypesHold}
use Rattle.script.specs.Meaning.{TypesHoldAll, script_of, ScriptRead, EveryRun}
use Rattle.script.proofs.Fronts.{whole, front_short, front_whole}
use Rattle.call_encoding.proofs.Meaning.{encode_decode, decode_encode}
use Rattle.script.proofs.Runs.{calls_known, calls_none, own_size}

header_length : (f : Fields) (own : ℕ) → length (call_header f own) ≡ call_header_size
unfolding call_header table_from
header_length f own = refl

-- a call with its own buffer at the front of a script
module _ (c : Call) (own rest : List ℕ) (h : TypesHold c) (k : U32 (length own)) where
  written : List ℕ
  written = encoded c (length own) ++ (own ++ rest)

  after_header : drop call_header_size written ≡ own ++ rest
  unfolding written
  after_header = drop_at (encoded c (length own)) (own ++ rest) call_header_size (header_length _ (length own))

  written_size : length written ≡ call_header_size + (length own + length rest)
  unfolding written
  written_size = length-append (encoded c (length own)) _ ∙ rw (header_length _ (length own), length-append own rest)

  front_written : front written ≡ known c (length own)
  unfolding written
  front_written =
      let size = written_size in
      sym (front_whole written (omega arith)
      (rw (take_at (encoded c (length own)) (own ++ rest) call_header_size (header_length _ (length own))) (encode_decode c (length own) h k)) (omega arith))

  own_written_lem : own_bytes (length own) written ≡ own
  own_written_lem = rw after_header (take_at own rest (length own) refl)

  rest_written : drop (call_header_size + length own) written ≡ rest
  rest_written = rw (← drop-drop (length own) call_header_size written, after_header) (drop_at own rest (length own) refl)

front_empty : front [] ≡ None
front_empty = sym (front_short [] (omega arith))

read_back : (cs : List Request) (k : ℕ) → TypesHoldAll cs → length (script_of cs) ≤ k → calls_from k (script_of cs) ≡ cs
unfolding script_of written
read_back [] k h m = calls_none k [] front_empty
read_back (c ∷ cs) zero h m = absurd (omega (arith, written_size c.call c.own (script_of cs) h.0.0 h.0.1))
read_back (c ∷ cs) (suc k) h m =
    let size = written_size c.call c.own (script_of cs) h.0.0 h.0.1 in
    calls_known k (script_of (c ∷ cs)) (front_written c.call c.own (script_of cs) h.0.0 h.0.1)
    ∙ rw (
      own_written_lem c.call c.own (script_of cs) h.0.0 h.0.1,
      rest_written c.call c.own (script_of cs) h.0.0 h.0.1,
      read_back cs k h.1 (omega arith),
    )

bytes_size : (cs : List Request) → calls_bytes cs ≡ length (script_of cs)
unfolding calls_bytes script_of
bytes_size [] = refl
bytes_size (c ∷ cs) =
    sym (length-append (encoded c.call (length c.own)) _
    ∙ rw (header_length _ (length c.own), length-append c.own (script_of cs), ← bytes_size cs) (omega arith))

pub every_run_lem : EveryRun
unfolding run_of
every_run_lem cs cells h =
    rw (read_back cs (length (script_of cs)) h (omega arith), bytes_size cs, drop-length (script_of cs))
    (ap (λ (l : List ℕ). ran (length (script_of cs)) l (parts_of (reference_after (reference_start cells) cs)))
    (append-nil (rendered (reference_responses (reference_start cells) cs))))

-- a list of bytes is the script of calls and what follows them, where no call stands
record CoveredBy (l : List ℕ) (cs : List Request) : Type 0 where
  calls : l ≡ script_of cs ++ drop (calls_bytes cs) l
  stop : front (drop (calls_bytes cs) l) ≡ None

covered_none : (k : ℕ) (l : List ℕ) → front l ≡ None → CoveredBy l (calls_from k l)
unfolding script_of calls_bytes
covered_none k l e = rw (calls_none k l e) (record { calls = refl; stop = e })

covered_more : (k : ℕ) (l : List ℕ) (c : Call) (own : ℕ) → front l ≡ known c own
    → CoveredBy (drop (call_header_size + own) l) (calls_from k (drop (call_header_size + own) l)) → CoveredBy l (calls_from (suc k) l)
unfolding script_of calls_bytes
covered_more k l c own e r =
    let w = whole l c own e in
    let size = own_size l c own e in
    let rest = calls_from k (drop (call_header_size + own) l) in
    let mine = own_bytes own l in
    let header : take call_header_size l ≡ encoded c own = decode_encode (take call_header_size l) c own w.says in
    let split : l ≡ encoded c own ++ (mine ++ drop (call_header_size + own) l) =
    sym (take-append-drop call_header_size l) ∙ rw header
    (ap (λ (x : List ℕ). encoded c own ++ x) (sym (take-append-drop own (drop call_header_size l)) ∙ rw (drop-drop own call_header_size l))) in
    let after : drop (call_header_size + own) l ≡ script_of rest ++ drop (call_header_size + own + calls_bytes rest) l =
    r.calls ∙ rw (drop-drop (calls_bytes rest) (call_header_size + own) l) in
    rw (calls_known k l e)
    (record {
      calls = rw size (split ∙ ap (λ (x : List ℕ). encoded c own ++ (mine ++ x)) after ∙ simp append_assoc);
      stop = rw (size, ← drop-drop (calls_bytes rest) (call_header_size + own) l) r.stop;
    })

covered : (k : ℕ) (l : List ℕ) → length l ≤ k → CoveredBy l (calls_from k l)
covered zero [] h = covered_none zero [] front_empty
covered zero (x ∷ l) h = absurd (omega arith)
covered (suc k) l h = by (front l) refl (λ m less. covered k m less)
  where
    by : (d : Option Decoded) → front l ≡ d → ((m : List ℕ) → length m ≤ k → CoveredBy m (calls_from k m)) → CoveredBy l (calls_from (suc k) l)
    by (Some said) e more =
        let w = whole l said.call said.own e in
        covered_more k l said.call said.own e
        (more (drop (call_header_size + said.own) l) (rw (length-drop (call_header_size + said.own) l) (omega (arith, w.enough))))
    by None e more = covered_none (suc k) l e

pub script_read : ScriptRead
script_read l = let c = covered (length l) l (omega arith) in record { calls = c.calls; stop = c.stop }
