-- The loop of `run`: what is left to do is the whole of the work.
use Prim.Native.Nat.{ℕ, suc, ◌+◌, ◌-◌, ◌≤◌, ◌<◌}
use native.Mathlib.Omega.{arith}
use native.Mathlib.Nat.{zero-add, add-zero}
use mathlib.Core.List.{List, [], ◌++◌, append_assoc, append-nil}
use mathlib.Core.Path.{◌≡◌, refl, sym, ap, ◌∙◌}
use lib.ListN.{length, take, drop, length-append, length-drop, drop_of_length-le, take-append-drop}
use lib.Seq.{length-take-le, take_all, take_at, drop_at}
use Rattle.board.specs.Parts.{Parts, SameLoans}
use Rattle.board.specs.declared.parts.Board.{Board}
use Rattle.call.specs.declared.call.Call.{Call}
use Rattle.call_encoding.specs.declared.decode.Decoded.{Decoded}
use Rattle.std.specs.Prelude.{Option, None, Some}
use Rattle.call_encoding.specs.Format.{call_header_size, known, answer_bytes}
use Rattle.script.specs.Script.{Ran, ran, Turned, turned, front, turn_of}
use Rattle.script.proofs.Fronts.{whole, answer_length, turn_none, turn_is}
use Rattle.script.proofs.Runs.{run_from, resumed, resumed_twice, step_at, from_none, from_known}

-- the loop's invariant
pub record Going (l₀ : List ℕ) (p₀ : Parts) (l : List ℕ) (p : Parts) (at : ℕ) : Type 0 where
  pub within : at ≤ length l
  pub size : length l ≡ length l₀
  pub cells : length p.cells ≡ length p₀.cells
  pub fuel : ℕ
  pub enough : length l ≤ at + fuel
  pub left : run_from (length l₀) p₀ l₀ ≡ resumed at (take at l) (run_from fuel p (drop at l))

pub going_start : (l : List ℕ) (p : Parts) → Going l p l p 0
going_start l p =
    record {
      within = omega arith;
      size = refl;
      cells = refl;
      fuel = length l;
      enough = omega arith;
      left = rw (zero-add (run_from (length l) p l).position);
    }

-- nothing is left: at the end of the script, and before a malformed call
finished : {l₀ : List ℕ} {p₀ : Parts} {l : List ℕ} {p : Parts} {at : ℕ} → Going l₀ p₀ l p at → front (drop at l) ≡ None
    → run_from (length l₀) p₀ l₀ ≡ ran at l p
finished {l₀} {p₀} {l} {p} {at} i e = i.left ∙ rw (from_none i.fuel p (drop at l) e, take-append-drop at l, add-zero at)

-- a call's bytes put back where it stood: the header that was said over, its own buffer, and the rest
record Placed (l part said mine : List ℕ) (at own : ℕ) : Type 0 where
  fits : call_header_size + own ≤ length l - at
  kept : length mine ≡ own
  size : length (take at l ++ part) ≡ length l
  front : take (at + (call_header_size + own)) (take at l ++ part) ≡ take at l ++ (said ++ mine)
  rest : drop (at + (call_header_size + own)) (take at l ++ part) ≡ drop (call_header_size + own) (drop at l)

placed : (l part said mine : List ℕ) (at own : ℕ) → at ≤ length l → call_header_size ≤ length (drop at l) → own ≤ length (drop at l) - call_header_size
    → length said ≡ call_header_size → part ≡ said ++ (mine ++ drop (call_header_size + own) (drop at l)) → length part ≡ length (drop at l)
    → Placed l part said mine at own
placed l part said mine at own h enough fits header e size =
    let d : length (drop at l) ≡ length l - at = length-drop at l in
    let sum : length part ≡ call_header_size + (length mine + (length (drop at l) - (call_header_size + own))) =
    ap length e ∙ length-append said _ ∙ rw (header, length-append mine, length-drop (call_header_size + own) (drop at l)) in
    let kept : length mine ≡ own = omega arith in
    let before : length (take at l) ≡ at = length-take-le at l h in
    let first : length (take at l ++ (said ++ mine)) ≡ at + (call_header_size + own) =
    length-append (take at l) _ ∙ rw (before, length-append said mine, header, kept) in
    let split : take at l ++ part ≡ (take at l ++ (said ++ mine)) ++ drop (call_header_size + own) (drop at l) =
    rw e (ap (λ (x : List ℕ). take at l ++ x) (sym (append_assoc said mine _)) ∙ sym (append_assoc (take at l) (said ++ mine) _)) in
    record {
      fits = omega arith;
      kept = kept;
      size = length-append (take at l) part ∙ rw (before, size) (omega arith);
      front = rw split (take_at (take at l ++ (said ++ mine)) _ (at + (call_header_size + own)) first);
      rest = rw split (drop_at (take at l ++ (said ++ mine)) _ (at + (call_header_size + own)) first);
    }

going_on : {l₀ : List ℕ} {p₀ : Parts} {l : List ℕ} {p : Parts} {at : ℕ} → Going l₀ p₀ l p at → (c : Call) (own : ℕ) → front (drop at l) ≡ known c own
    → (part : List ℕ) → Placed l part (answer_bytes (step_at p c own (drop at l)).answer own) (step_at p c own (drop at l)).own at own
    → length (step_at p c own (drop at l)).parts.cells ≡ length p₀.cells
    → Going l₀ p₀ (take at l ++ part) (step_at p c own (drop at l)).parts (at + (call_header_size + own))
going_on {l₀} {p₀} {l} {p} {at} i c own e part b cells =
    let inside = b.fits in
    let more : i.fuel ≡ suc (i.fuel - 1) = omega (arith, i.enough) in
    record {
      within = rw b.size (omega arith);
      size = b.size ∙ i.size;
      cells = cells;
      fuel = i.fuel - 1;
      enough = rw b.size (omega (arith, i.enough));
      left =
          i.left ∙ ap (λ (k : ℕ). resumed at (take at l) (run_from k p (drop at l))) more
          ∙ ap (λ (r : Ran). resumed at (take at l) r) (from_known (i.fuel - 1) p (drop at l) c own e)
          ∙ rw (b.kept, b.front, b.rest) (resumed_twice at (call_header_size + own) (take at l) _ _);
    }

none_taken : {n : ℕ} → None ≡ Some n → ⊥
none_taken e = let z : ◌≡◌ {A = ℕ} 0 1 = cc in omega arith

same_taken : {m n : ℕ} → Some m ≡ Some n → m ≡ n
same_taken e = cc

-- one turn of the loop
pub record Went (l₀ : List ℕ) (p₀ : Parts) (l : List ℕ) (at took : ℕ) (part : List ℕ) (q : Parts) : Type 0 where
  pub moves : 0 < took
  pub fits : took ≤ length l - at
  pub going : length q.cells ≡ length p₀.cells → Going l₀ p₀ (take at l ++ (part ++ drop (length l - at) (drop at l))) q (at + took)

module _ {l₀ : List ℕ} {p₀ : Parts} {l : List ℕ} {p : Parts} {at : ℕ} (i : Going l₀ p₀ l p at) (took : Option ℕ) (part : List ℕ) (q : Parts)
    (t : turned took part q ≡ turn_of p (take (length l - at) (drop at l))) (kept : length part ≡ length (take (length l - at) (drop at l))) where
  -- the part from a position to the end is lent, and comes back there
  to_end : take (length l - at) (drop at l) ≡ drop at l
  to_end = take_all (length l - at) (drop at l) (rw (length-drop at l) (omega arith))

  none_after : drop (length l - at) (drop at l) ≡ []
  none_after = drop_of_length-le (drop at l) {i = length l - at} (rw (length-drop at l) (omega arith))

  pub same_size : length (take at l ++ (part ++ drop (length l - at) (drop at l))) ≡ length l₀
  same_size =
      rw (none_after, append-nil part) (length-append (take at l) part ∙ rw (length-take-le at l i.within, kept, to_end, length-drop at l) (omega (arith, i.size)))

  pub stopped : took ≡ None → run_from (length l₀) p₀ l₀ ≡ ran at (take at l ++ (part ++ drop (length l - at) (drop at l))) q
  stopped z = by (front (drop at l)) refl
    where
      by : (d : Option Decoded) → front (drop at l) ≡ d → run_from (length l₀) p₀ l₀ ≡ ran at (take at l ++ (part ++ drop (length l - at) (drop at l))) q
      by (Some said) e = absurd (none_taken (sym z ∙ ap (λ (r : Turned). r.took) ((rw to_end at t) ∙ sym (turn_is p (drop at l) e _ refl))))
      by None e =
          let s = (rw to_end at t) ∙ sym (turn_none p (drop at l) e) in
          rw (none_after, append-nil part, ap (λ (r : Turned). r.script) s, ap (λ (r : Turned). r.parts) s, take-append-drop at l) (finished i e)

  pub goes_on : (n : ℕ) → took ≡ Some n → Went l₀ p₀ l at n part q
  goes_on m z = by (front (drop at l)) refl
    where
      by : (d : Option Decoded) → front (drop at l) ≡ d → Went l₀ p₀ l at m part q
      by (Some said) e =
          let c = said.call in
          let own = said.own in
          let d = drop at l in
          let n = step_at p c own d in
          let s = (rw to_end at t) ∙ sym (turn_is p d e n refl) in
          let w = whole d c own e in
          let b = placed l part (answer_bytes n.answer own) n.own at own i.within w.enough w.fits (answer_length n.answer own)
          (ap (λ (r : Turned). r.script) s) (kept ∙ ap length to_end) in
          let took-is : m ≡ call_header_size + own = same_taken (sym z ∙ ap (λ (r : Turned). r.took) s) in
          record {
            moves = rw took-is (omega arith);
            fits = rw took-is b.fits;
            going = λ cells. rw (none_after, append-nil part, took-is, ap (λ (r : Turned). r.parts) s) (going_on i c own e part b (rw (ap (λ (r : Turned). r.parts) s) at cells));
          }
      by None e = absurd (none_taken (sym (sym z ∙ ap (λ (r : Turned). r.took) ((rw to_end at t) ∙ sym (turn_none p (drop at l) e)))))

-- two turns leave the same loans
pub loans_on : (a b c : Board) → SameLoans a b → SameLoans b c → SameLoans a c
loans_on a b c p q =
    record {
      header = q.header ∙ p.header;
      records = q.records ∙ p.records;
      registers = q.registers ∙ p.registers;
      windows = q.windows ∙ p.windows;
      offsets = q.offsets ∙ p.offsets;
      hooks = q.hooks ∙ p.hooks;
      used = q.used ∙ p.used;
      cells = q.cells ∙ p.cells;
      room = q.room ∙ p.room;
    }
