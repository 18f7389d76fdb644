-- Rows with literal numbers of document 01, "Chains and marks" and "Numbers handed back": what set
-- used leaves, and what get used gives.
use Rattle.std.specs.Prelude.{ℕ, List, [], ◌∷◌, map, ◌≡◌, ℤ, pos, neg_ℤ, replicate, Result, Ok, Err}
use Rattle.board.specs.Statuses.{refusal_number, number_of}
use Rattle.board.specs.declared.status.CallRefusal.{CallRefusal}
use Rattle.card_used.specs.declared.used.Mark.{Mark}
use Rattle.card_used.specs.Used.{
  mark,
  mark_at,
  marks_of,
  MarkOutcome,
  get_card_used,
  set_card_used,
}

-- boards of one function and of two; marks 1 of handle 1, and 2 with call-back C0DEh of handle 2
abbrev one : List ℕ
one = 1 ∷ 0 ∷ 0 ∷ 0 ∷ []

abbrev two : List ℕ
two = 2 ∷ 0 ∷ 0 ∷ 0 ∷ []

abbrev before : List ℕ
before = 1 ∷ 0 ∷ 2 ∷ 0xC0DE ∷ []

-- set used leaves a number and marks: 0 and marks, or -n and the old ones
abbrev numbered : MarkOutcome → ℤ × List ℕ
numbered t = (number_of t.status, t.used)

abbrev leaves : List ℕ → ℤ × List ℕ
leaves marks = (pos 0, marks)

abbrev refuses : ℕ → ℤ × List ℕ
refuses n = (neg_ℤ (pos n), before)

-- get used gives a status and a call-back, or a number
abbrev given : Result Mark CallRefusal → Result Mark ℤ
given (Ok m) = Ok m
given (Err refusal) = Err (refusal_number refusal)

pub record CardUsedRows : Type 0 where
  -- the status is 0 to 3, the call-back address is kept for 2 and is 0 otherwise; above 3: -8
  pub set_used : map (λ status. numbered (set_card_used two before 2 status 0x1234)) (0 ∷ 1 ∷ 2 ∷ 3 ∷ 4 ∷ [])
      ≡ leaves (1 ∷ 0 ∷ 0 ∷ 0 ∷ [])
      ∷ leaves (1 ∷ 0 ∷ 1 ∷ 0 ∷ [])
      ∷ leaves (1 ∷ 0 ∷ 2 ∷ 0x1234 ∷ [])
      ∷ leaves (1 ∷ 0 ∷ 3 ∷ 0 ∷ [])
      ∷ refuses 8
      ∷ []
  pub set_first : map (λ status. numbered (set_card_used two before 1 status 0x1234))
      (2 ∷ 3 ∷ 4 ∷ 0xFFFFFFFF ∷ [])
      ≡ leaves (2 ∷ 0x1234 ∷ 2 ∷ 0xC0DE ∷ [])
      ∷ leaves (3 ∷ 0 ∷ 2 ∷ 0xC0DE ∷ [])
      ∷ refuses 8
      ∷ refuses 8
      ∷ []
  -- the order of checks: -9, then -8
  pub bad_handle_first : map (λ handle. numbered (set_card_used two before handle 4 0x1234)) (0 ∷ 1 ∷ 2 ∷ 3 ∷ [])
      ≡ refuses 9 ∷ refuses 8 ∷ refuses 8 ∷ refuses 9 ∷ []
  pub bad_handle : numbered (set_card_used one before 2 2 0x1234) ≡ refuses 9
  -- get used: -9, whatever the mark
  pub get_used : map (λ handle. given (get_card_used two before handle)) (0 ∷ 1 ∷ 2 ∷ 3 ∷ [])
      ≡ Err (neg_ℤ (pos 9))
      ∷ Ok (mark 1 0)
      ∷ Ok (mark 2 0xC0DE)
      ∷ Err (neg_ℤ (pos 9))
      ∷ []
  pub get_refused : given (get_card_used one before 2) ≡ Err (neg_ℤ (pos 9))
  -- the marks of 16 functions one after the other: status, call-back
  pub array : marks_of (mark_at before) ≡ 1 ∷ 0 ∷ 2 ∷ 0xC0DE ∷ replicate 28 0
