-- The call at the front of a script, and that call performed.
use Prim.Native.Nat.{ℕ, ◌+◌, ◌-◌, ◌≤◌, ◌<◌}
use native.Mathlib.Omega.{arith}
use mathlib.Core.Bool.{Bool, true, false, cond}
use mathlib.Core.List.{List, ◌++◌}
use mathlib.Core.Path.{◌≡◌, refl}
use lib.Dec.{ltb}
use lib.ListN.{length, take, drop, length-append}
use lib.Seq.{length-take-le, drop_at, drop-drop}
use borrow.Author.Tests.{ltb-false, lt-ltb, le-ltb}
use Rattle.board.specs.Parts.{Parts}
use Rattle.numbers.specs.Tables.{table_from}
use Rattle.call.specs.declared.answer.Answer.{Answer}
use Rattle.call.specs.declared.call.Call.{Call}
use Rattle.reference.specs.State.{Outcome, outcome, step}
use Rattle.call_encoding.specs.declared.decode.Decoded.{Decoded}
use Rattle.std.specs.Prelude.{Option, None, Some}
use Rattle.call_encoding.specs.Format.{call_header_size, known, decoded, answer_bytes}
use Rattle.call_encoding.proofs.Bytes.{same_known}
use Rattle.script.specs.Script.{turned, fitting, front, own_bytes, turn_of}

-- no constructor is another
differ : {c : Call} {own : ℕ} → None ≡ known c own → ⊥
differ e = let z : ◌≡◌ {A = ℕ} 0 1 = cc in omega arith

-- the ends of `front`
pub front_short : (l : List ℕ) → length l < call_header_size → None ≡ front l
unfolding front
front_short l h = rw (lt-ltb (length l) call_header_size h)

module _ (l : List ℕ) (h : call_header_size ≤ length l) where
  pub front_other : decoded (take call_header_size l) ≡ None → None ≡ front l
  unfolding front
  front_other e = rw (le-ltb (length l) call_header_size h, e)

  pub front_cut : {c : Call} {own : ℕ} → decoded (take call_header_size l) ≡ known c own → length l - call_header_size < own → None ≡ front l
  unfolding front
  front_cut {c} {own} e less = rw (le-ltb (length l) call_header_size h, e, lt-ltb (length l - call_header_size) own less)

  pub front_whole : {c : Call} {own : ℕ} → decoded (take call_header_size l) ≡ known c own → own ≤ length l - call_header_size → known c own ≡ front l
  unfolding front
  front_whole {c} {own} e more = rw (le-ltb (length l) call_header_size h, e, le-ltb (length l - call_header_size) own more)

-- a call at the front stands there whole
pub record Whole (l : List ℕ) (c : Call) (own : ℕ) : Type 0 where
  pub enough : call_header_size ≤ length l
  pub fits : own ≤ length l - call_header_size
  pub says : decoded (take call_header_size l) ≡ known c own

pub whole : (l : List ℕ) (c : Call) (own : ℕ) → front l ≡ known c own → Whole l c own
unfolding front
whole l c own = long (ltb (length l) call_header_size) refl
  where
    fit : (d : Option Decoded) → fitting (length l - call_header_size) d ≡ known c own → (own ≤ length l - call_header_size) × (d ≡ known c own)
    fit (Some said) e₀ = by (ltb (length l - call_header_size) said.own) refl e₀
      where
        by : (b : Bool) → ltb (length l - call_header_size) said.own ≡ b → cond b None (Some said) ≡ known c own
            → (own ≤ length l - call_header_size) × (Some said ≡ known c own)
        by true t e = absurd (differ e)
        by false t e =
            let same : said.own ≡ own = (same_known {a = said.call} {m = said.own} e).1 in
            (rw same at (ltb-false (length l - call_header_size) said.own t), e)
    fit None e = absurd (differ e)

    long : (b : Bool) → ltb (length l) call_header_size ≡ b → cond b None (fitting (length l - call_header_size) (decoded (take call_header_size l))) ≡ known c own
        → Whole l c own
    long true t e = absurd (differ e)
    long false t e = let f = fit (decoded (take call_header_size l)) e in record { enough = ltb-false (length l) call_header_size t; fits = f.0; says = f.1 }

pub answer_length : (a : Answer) (own : ℕ) → length (answer_bytes a own) ≡ call_header_size
unfolding answer_bytes table_from
answer_length a own = refl

-- the header's position in a script whose own buffer came back
pub header_room : (l rest : List ℕ) → call_header_size ≤ length l → call_header_size ≤ length (take call_header_size l ++ rest)
header_room l rest h = rw (length-append, length-take-le call_header_size l h) (omega arith)

-- the ends of `turn`
pub turn_none : (p : Parts) (l : List ℕ) → front l ≡ None → turned None l p ≡ turn_of p l
unfolding turn_of
turn_none p l e = rw e

pub turn_is : (p : Parts) (l : List ℕ) {c : Call} {own : ℕ} → front l ≡ known c own → (n : Outcome) → n ≡ step p c (own_bytes own l)
    → turned (Some (call_header_size + own)) (answer_bytes n.answer own ++ (n.own ++ drop (call_header_size + own) l)) n.parts ≡ turn_of p l
unfolding turn_of
turn_is p l e n s = rw (e, s)

pub turn_done : (p q : Parts) (l mine : List ℕ) (c : Call) (own : ℕ) (a : Answer) {said : List ℕ} → front l ≡ known c own
    → outcome a q mine ≡ step p c (take (call_header_size + own - call_header_size) (drop call_header_size l)) → said ≡ answer_bytes a own
    → turned (Some (call_header_size + own))
    (said ++ drop call_header_size (take call_header_size l ++ (mine ++ drop (call_header_size + own - call_header_size) (drop call_header_size l)))) q
    ≡ turn_of p l
turn_done p q l mine c own a {said} e n s =
    let k : call_header_size + own - call_header_size ≡ own = omega arith in
    let header : length (take call_header_size l) ≡ call_header_size = length-take-le call_header_size l (whole l c own e).enough in
    let rest : List ℕ = mine ++ drop (call_header_size + own) l in
    rw (s, k, drop-drop own call_header_size l, drop_at (take call_header_size l) rest call_header_size header)
    (turn_is p l e (outcome a q mine) (rw k at n))
