-- Demand 3 of `run`: what it leaves of a script, call by call.
use Prim.Native.Nat.{ℕ}
use native.Mathlib.Omega.{arith}
use mathlib.Core.List.{List, [], ◌∷◌, ◌++◌, append_assoc}
use mathlib.Core.Path.{◌≡◌, refl, sym, ap, ◌∙◌}
use lib.ListN.{length, take, drop, length-append}
use lib.Seq.{take_at, drop_at}
use Rattle.board.specs.Parts.{Parts}
use Rattle.reference.specs.Reference.{Reference, reference_start}
use Rattle.reference.specs.Run.{Request, Response, response, step_on, responses, parts_after, reference_on, parts_of, start}
use Rattle.reference.specs.Claims.{struck_out, responses_without_data_of}
use Rattle.reference.proofs.Tests.{if_either}
use Rattle.reference.proofs.Sound.{Sound}
use Rattle.reference.proofs.Simulation.{same, sound_start, start_same}
use Rattle.reference.proofs.Refusal.{refusal}
use Rattle.reference.proofs.Frame.{framed, frame}
use Rattle.reference.proofs.Refinement.{refinement}
use Rattle.reference.proofs.NonInterference.{non_interference_lem}
use Rattle.call_encoding.specs.Format.{answer_bytes}
use Rattle.script.specs.Script.{calls_in, calls_bytes, rendered, run_of}
use Rattle.script.specs.Demand3.{call_bytes, bytes_for, bytes_without_data_of, EveryTurn, LastBoard, ScriptNonInterference, Demand3OfRun}
use Rattle.script.proofs.Fronts.{answer_length}
use Rattle.script.proofs.Scripts.{every_run_lem}

-- a response to each request, whose own buffer has kept its length
data Matched : List Request → List Response → Type 0 where
  none : Matched [] []
  one : (c : Request) (r : Response) (cs : List Request) (rs : List Response) → length r.own ≡ length c.own → Matched cs rs → Matched (c ∷ cs) (r ∷ rs)

matched_from : (b : Reference) → Sound b → (cs : List Request) → Matched cs (responses (parts_of b) cs)
unfolding responses
matched_from b s [] = none
matched_from b s (c ∷ cs) =
    let n = same b s c.call c.own in
    let r : Response = response (step_on (parts_of b) c).answer (step_on (parts_of b) c).own in
    one c r cs (responses (step_on (parts_of b) c).parts cs) (framed b s c).parts.own.room
    (rw n.parts (matched_from (reference_on b c).reference n.sound cs))

matched : (cells : List ℕ) (cs : List Request) → Matched cs (responses (start cells) cs)
matched cells cs = rw (start_same cells) (matched_from (reference_start cells) (sound_start cells) cs)

-- a response in a script
abbrev bytes_of : Response → List ℕ
bytes_of r = answer_bytes r.answer (length r.own) ++ r.own

bytes_length : (c : Request) (r : Response) → length r.own ≡ length c.own → length (bytes_of r) ≡ call_bytes c
bytes_length c r e = length-append (answer_bytes r.answer (length r.own)) r.own ∙ rw (answer_length r.answer (length r.own), e)

-- what stands for the calls that are not struck out is what they are answered: of one call before others
module _ (h : ℕ) (c : Request) (r : Response) (cs : List Request) (rs : List Response) (rest : List ℕ) (e : length r.own ≡ length c.own)
    (others-kept : bytes_without_data_of h cs (rendered rs ++ rest) ≡ rendered (responses_without_data_of h cs rs)) where
  whole : (answer_bytes r.answer (length r.own) ++ (r.own ++ rendered rs)) ++ rest ≡ bytes_of r ++ (rendered rs ++ rest)
  whole = simp append_assoc

  first : take (call_bytes c) (bytes_of r ++ (rendered rs ++ rest)) ≡ bytes_of r
  first = take_at (bytes_of r) (rendered rs ++ rest) (call_bytes c) (bytes_length c r e)

  others : drop (call_bytes c) (bytes_of r ++ (rendered rs ++ rest)) ≡ rendered rs ++ rest
  others = drop_at (bytes_of r) (rendered rs ++ rest) (call_bytes c) (bytes_length c r e)

  kept_one : bytes_without_data_of h (c ∷ cs) (rendered (r ∷ rs) ++ rest) ≡ rendered (responses_without_data_of h (c ∷ cs) (r ∷ rs))
  unfolding bytes_without_data_of rendered responses_without_data_of
  kept_one =
      if_either (struck_out h c.call)
      (λ t. rw (t, whole, others) others-kept)
      (λ t.
      rw (t, whole, first, others, others-kept)
      (append_assoc (answer_bytes r.answer (length r.own)) r.own (rendered (responses_without_data_of h cs rs))))

kept_bytes : (h : ℕ) {cs : List Request} {rs : List Response} (rest : List ℕ) → Matched cs rs
    → bytes_without_data_of h cs (rendered rs ++ rest) ≡ rendered (responses_without_data_of h cs rs)
unfolding bytes_without_data_of rendered responses_without_data_of
kept_bytes h rest none = refl
kept_bytes h rest (one c r cs rs e m) = kept_one h c r cs rs rest e (kept_bytes h rest m)

-- the bytes of the calls before one
rendered_length : {cs : List Request} {rs : List Response} → Matched cs rs → length (rendered rs) ≡ calls_bytes cs
unfolding rendered calls_bytes
rendered_length none = refl
rendered_length (one c r cs rs e m) =
    length-append (answer_bytes r.answer (length r.own)) _
    ∙ rw (answer_length r.answer (length r.own), length-append r.own (rendered rs), e, rendered_length m) (omega arith)

rendered_append : (rs qs : List Response) → rendered (rs ++ qs) ≡ rendered rs ++ rendered qs
unfolding rendered
rendered_append [] qs = refl
rendered_append (r ∷ rs) qs =
    rw (rendered_append rs qs)
    (simp append_assoc)

responses_append : (p : Parts) (cs ds : List Request) → responses p (cs ++ ds) ≡ responses p cs ++ responses (parts_after p cs) ds
unfolding responses parts_after
responses_append p [] ds = refl
responses_append p (c ∷ cs) ds = rw (responses_append (step_on p c).parts cs ds)

-- what `run` leaves, in the program's words
script_is : (cells script : List ℕ) → (run_of script cells).script ≡ rendered (responses (start cells) (calls_in script)) ++ drop (calls_bytes (calls_in script)) script
unfolding run_of
script_is cells script = rw (refinement cells (calls_in script)).answered

last_board_lem : LastBoard
unfolding run_of
last_board_lem cells script = sym (refinement cells (calls_in script)).stands

every_turn_lem : EveryTurn
unfolding responses rendered
every_turn_lem cells script before after c e =
    let p = parts_after (start cells) before in
    let n = step_on p c in
    record {
      bytes = bytes_are;
      refusal = refusal p c.call c.own;
      frame = frame cells before c;
    }
  where
    bytes_are : bytes_for c before (run_of script cells).script
        ≡ answer_bytes (step_on (parts_after (start cells) before) c).answer (length c.own) ++ (step_on (parts_after (start cells) before) c).own
    bytes_are =
        let p = parts_after (start cells) before in
        let n = step_on p c in
        let r : Response = response n.answer n.own in
        let kept : length n.own ≡ length c.own = (frame cells before c).parts.own.room in
        let rest = drop (calls_bytes (calls_in script)) script in
        let tail : List ℕ = rendered (responses n.parts after) ++ rest in
        let first = rendered (responses (start cells) before) in
        let split : (run_of script cells).script ≡ first ++ (bytes_of r ++ tail) =
        script_is cells script
        ∙ ap (λ (cs : List Request). rendered (responses (start cells) cs) ++ rest) e
        ∙ ap (λ (rs : List Response). rendered rs ++ rest) (responses_append (start cells) before (c ∷ after))
        ∙ ap (λ (l : List ℕ). l ++ rest) (rendered_append (responses (start cells) before) (responses p (c ∷ after)))
        ∙ simp append_assoc in
        let size = rendered_length (matched cells before) in
        ap (λ (l : List ℕ). take (call_bytes c) (drop (calls_bytes before) l)) split
        ∙ ap (λ (l : List ℕ). take (call_bytes c) l) (drop_at first (bytes_of r ++ tail) (calls_bytes before) size)
        ∙ take_at (bytes_of r) tail (call_bytes c) (bytes_length c r kept)
        ∙ ap (λ (m : ℕ). answer_bytes n.answer m ++ n.own) kept

script_noninterference : ScriptNonInterference
script_noninterference h cells s t e =
    let a = non_interference_lem refinement h cells (calls_in s) (calls_in t) e in
    let left : (l : List ℕ) → bytes_without_data_of h (calls_in l) (run_of l cells).script
    ≡ rendered (responses_without_data_of h (calls_in l) (responses (start cells) (calls_in l))) =
    λ l. ap (bytes_without_data_of h (calls_in l)) (script_is cells l) ∙ kept_bytes h (drop (calls_bytes (calls_in l)) l) (matched cells (calls_in l)) in
    record {
      answered = left s ∙ ap rendered a.answered ∙ sym (left t);
      unseen = rw (last_board_lem cells s, last_board_lem cells t) a.unseen;
    }

pub demand3_of_run : Demand3OfRun
demand3_of_run =
    record { every_run = every_run_lem; last_board = last_board_lem; every_turn = every_turn_lem; non_interference = script_noninterference }
