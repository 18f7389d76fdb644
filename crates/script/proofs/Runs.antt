-- The program's run of the calls from the front of a script, call by call; and the whole in the
-- reference machine's words.
use Prim.Native.Nat.{ℕ, zero, suc, ◌+◌}
use native.Mathlib.Nat.{add_assoc}
use mathlib.Core.List.{List, [], ◌∷◌, ◌++◌, append_assoc}
use mathlib.Core.Path.{◌≡◌, refl, sym, ap, ◌∙◌}
use lib.ListN.{length, drop, length-drop}
use lib.Seq.{length-take-le, drop-drop}
use Rattle.board.specs.Parts.{Parts}
use Rattle.call.specs.declared.call.Call.{Call}
use Rattle.reference.specs.Run.{request, responses, parts_after, start}
use Rattle.reference.specs.State.{Outcome, step}
use Rattle.reference.proofs.Refinement.{refinement}
use Rattle.std.specs.Prelude.{None}
use Rattle.call_encoding.specs.Format.{call_header_size, known, answer_bytes}
use Rattle.script.specs.Script.{Ran, ran, front, own_bytes, calls_from, calls_bytes, rendered, run_of}
use Rattle.script.proofs.Fronts.{whole}

-- the calls at a known front, and at a malformed one
pub calls_known : (k : ℕ) (l : List ℕ) {c : Call} {own : ℕ} → front l ≡ known c own
    → calls_from (suc k) l ≡ request c (own_bytes own l) ∷ calls_from k (drop (call_header_size + own) l)
unfolding calls_from
calls_known k l e = rw e

pub calls_none : (k : ℕ) (l : List ℕ) → front l ≡ None → calls_from k l ≡ []
unfolding calls_from
calls_none zero l e = refl
calls_none (suc k) l e = rw e

pub own_size : (l : List ℕ) (c : Call) (own : ℕ) → front l ≡ known c own → length (own_bytes own l) ≡ own
own_size l c own e =
    let w = whole l c own e in
    length-take-le own (drop call_header_size l) (rw (length-drop call_header_size l) w.fits)

-- the program's run of the calls from the front of a list of bytes
pub run_from : ℕ → Parts → List ℕ → Ran
run_from k p l =
    let calls = calls_from k l in
    ran (calls_bytes calls) (rendered (responses p calls) ++ drop (calls_bytes calls) l) (parts_after p calls)

-- that run after what is done
abbrev pub resumed : ℕ → List ℕ → Ran → Ran
resumed at done r = ran (at + r.position) (done ++ r.script) r.parts

pub resumed_twice : (a b : ℕ) (x y : List ℕ) (r : Ran) → resumed a x (resumed b y r) ≡ resumed (a + b) (x ++ y) r
resumed_twice a b x y r = rw (add_assoc a b r.position, append_assoc x y r.script)

pub from_none : (k : ℕ) (p : Parts) (l : List ℕ) → front l ≡ None → run_from k p l ≡ ran 0 l p
unfolding run_from calls_bytes rendered responses parts_after
from_none k p l e = rw (calls_none k l e)

-- the call at the front performed, and its bytes after that
abbrev pub step_at : Parts → Call → ℕ → List ℕ → Outcome
step_at p c own l = step p c (own_bytes own l)

abbrev pub done : Outcome → List ℕ
done n = answer_bytes n.answer (length n.own) ++ n.own

pub from_known : (k : ℕ) (p : Parts) (l : List ℕ) (c : Call) (own : ℕ) → front l ≡ known c own
    → run_from (suc k) p l
    ≡ resumed (call_header_size + own) (done (step_at p c own l)) (run_from k (step_at p c own l).parts (drop (call_header_size + own) l))
unfolding run_from calls_bytes rendered responses parts_after
from_known k p l c own e =
    let n = step_at p c own l in
    let rest = calls_from k (drop (call_header_size + own) l) in
    let rest-rendered = rendered (responses n.parts rest) in
    rw (calls_known k l e, own_size l c own e, ← drop-drop (calls_bytes rest) (call_header_size + own) l)
    (ap (λ (x : List ℕ). ran (call_header_size + own + calls_bytes rest) x (parts_after n.parts rest))
    (ap (λ (x : List ℕ). x ++ drop (calls_bytes rest) (drop (call_header_size + own) l)) (sym (append_assoc (answer_bytes n.answer (length n.own)) n.own rest-rendered))
    ∙ append_assoc (done n) rest-rendered (drop (calls_bytes rest) (drop (call_header_size + own) l))))

-- the program's run from the start is the reference machine's
pub as_reference : (l cells : List ℕ) → run_from (length l) (start cells) l ≡ run_of l cells
unfolding run_from run_of
as_reference l cells = let r = refinement cells (calls_from (length l) l) in rw (r.answered, r.stands)
