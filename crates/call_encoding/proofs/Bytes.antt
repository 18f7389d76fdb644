-- Laws of the bytes of a header.
use Prim.Native.Nat.{ℕ, ◌+◌, ◌-◌, ◌≤◌}
use native.Mathlib.Omega.{arith}
use native.Mathlib.Nat.{div-one}
use mathlib.Core.Bool.{true, false, cond, false≢true}
use mathlib.Core.List.{List, [], ◌∷◌, append_assoc}
use mathlib.Core.Path.{◌≡◌, refl, sym, ap, ◌∙◌}
use lib.Dec.{eqb}
use lib.ListN.{length, take, set, replicate}
use lib.Pointwise.{pointwise}
use lib.Seq.{sets, sets-eq}
use borrow.Rule.Slice.PartMut.{put_mid, Post-is}
use Rattle.std.specs.Int.{to_be_bytes}
use Rattle.std.proofs.Common.{w64}
use borrow.Author.Tests.{eqb-true, eq-eqb}
use Rattle.numbers.specs.Numbers.{big_bytes, bits}
use Rattle.numbers.specs.Tables.{table_from}
use Rattle.numbers.proofs.Tests.{both_true}
use Rattle.call_encoding.specs.declared.fields.Fields.{Fields}
use Rattle.std.specs.Prelude.{Option, None, Some}
use Rattle.call.specs.declared.answer.Answer.{Answer}
use Rattle.call.specs.declared.call.Call.{Call}
use Rattle.call.specs.declared.call.Call.TheVariants.{Load}
use Rattle.call_encoding.specs.declared.decode.Decoded.{Decoded}
use Rattle.call_encoding.specs.Format.{value_bytes, answer_bytes, fields_of, candidate, call_header, encoded, header_fields_at, own_length, same_bytes, known, decoded}

pub header_put : (f : Fields) (own : ℕ) {h a b c all : List ℕ}
    → h ≡ sets (f.operation ∷ f.width ∷ f.space ∷ f.register ∷ replicate 60 0) 4 (big_bytes 4 f.handle)
    → a ≡ sets h 8 (big_bytes 4 f.a) → b ≡ sets a 12 (big_bytes 4 f.b) → c ≡ sets b 16 (big_bytes 4 f.c) → all ≡ sets c 60 (big_bytes 4 own) → all ≡ call_header f own
unfolding call_header table_from
header_put f own h a b c all = rw (all, c, b, a, h)

-- a value put where it stands
pub value_put : (l : List ℕ) (at v : ℕ) {bytes : List ℕ} → bytes ≡ to_be_bytes w64 v → at + 8 ≤ length l
    → put_mid at (at + 8 - at) l bytes ≡ sets l at (big_bytes 8 v)
unfolding table_from
value_put l at v e h =
    let same : to_be_bytes w64 v ≡ big_bytes 8 v = rw (div-one v) in
    rw (Post-is at (at + 8) l (omega arith), e ∙ same)
    (sym (append_assoc (take at l) (big_bytes 8 v) _) ∙ sym (sets-eq (big_bytes 8 v) l at h))

pub answer_put : (a : Answer) (own b flag : ℕ) {n v₀ v₁ v₂ v₃ v₄ v₅ all : List ℕ} → b ≡ bits a.number → flag ≡ cond a.refused 1 0
    → n ≡ sets (replicate 64 0) 0 (big_bytes 4 b) → v₀ ≡ sets (set n 4 flag) 8 (value_bytes a 0)
    → v₁ ≡ sets v₀ 16 (value_bytes a 1) → v₂ ≡ sets v₁ 24 (value_bytes a 2) → v₃ ≡ sets v₂ 32 (value_bytes a 3) → v₄ ≡ sets v₃ 40 (value_bytes a 4)
    → v₅ ≡ sets v₄ 48 (value_bytes a 5) → all ≡ sets v₅ 60 (big_bytes 4 own) → all ≡ answer_bytes a own
unfolding answer_bytes table_from
answer_put a own b flag e f n v₀ v₁ v₂ v₃ v₄ v₅ all = rw (all, v₅, v₄, v₃, v₂, v₁, v₀, n, e, f)

-- two lists are the same bytes exactly if they are equal
pub same_refl : (l : List ℕ) → same_bytes l l ≡ true
unfolding same_bytes
same_refl [] = refl
same_refl (x ∷ l) = rw (eq-eqb x x refl, same_refl l)

pub same_equal : (l m : List ℕ) → same_bytes l m ≡ true → l ≡ m
unfolding same_bytes
same_equal [] [] e = refl
same_equal [] (y ∷ m) e = absurd (false≢true e)
same_equal (x ∷ l) [] e = absurd (false≢true e)
same_equal (x ∷ l) (y ∷ m) e =
    let b = both_true (eqb x y) (same_bytes l m) e in
    rw (eqb-true x y b.0, same_equal l m b.1)

-- the library's comparison is that one
pointwise_same : (l m : List ℕ) → pointwise eqb l m ≡ same_bytes l m
unfolding same_bytes
pointwise_same [] [] = refl
pointwise_same [] (y ∷ m) = refl
pointwise_same (x ∷ l) [] = refl
pointwise_same (x ∷ l) (y ∷ m) = rw (pointwise_same l m)

-- headers that say the same say the same call and length
call_in : Option Decoded → Call
call_in (Some d) = d.call
call_in None = Load

own_in : Option Decoded → ℕ
own_in (Some d) = d.own
own_in None = 0

pub same_known : {a b : Call} {m n : ℕ} → known a m ≡ known b n → (a ≡ b) × (m ≡ n)
unfolding call_in own_in
same_known e = (ap call_in e, ap own_in e)

-- a header against that of the only call that it can be
module _ (l : List ℕ) (f g : Fields) (again : List ℕ) {call : Call} {own : ℕ} (at : f ≡ header_fields_at l) (c : call ≡ candidate f) (o : own ≡ own_length l)
    (of : g ≡ fields_of call) (e : again ≡ call_header g own) where
  compared : same_bytes (encoded (candidate (header_fields_at l)) (own_length l)) l ≡ pointwise eqb again l
  compared = rw (← at, ← c, ← o, ← of, ← e) (sym (pointwise_same again l))

  pub decoded_known : pointwise eqb again l ≡ true → known call own ≡ decoded l
  unfolding decoded
  decoded_known s = rw (compared ∙ s, c, at, o)

  pub decoded_not : pointwise eqb again l ≡ false → None ≡ decoded l
  unfolding decoded
  decoded_not s = rw (compared ∙ s)
