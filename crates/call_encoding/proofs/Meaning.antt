-- Encode then decode, and decode then encode.
use Prim.Native.Nat.{ℕ, ◌%◌, ◌^◌}
use native.Mathlib.Omega.{arith}
use mathlib.Core.Bool.{Bool, true, false, cond}
use mathlib.Core.List.{List, [], ◌∷◌, ◌++◌}
use mathlib.Core.Path.{◌≡◌, refl, sym, ◌∙◌}
use lib.ListN.{replicate}
use Rattle.numbers.specs.Numbers.{big_bytes}
use Rattle.numbers.specs.Tables.{table_from}
use Rattle.numbers.proofs.Numbers.{big_bytes_lem}
use Rattle.std.specs.Prelude.{None}
use Rattle.call_encoding.specs.declared.fields.Fields.{Fields}
use Rattle.call_encoding.specs.Format.{fields_of, candidate, call_header, encoded, header_fields_at, own_length, same_bytes, known, decoded}
use Rattle.call_encoding.specs.Meaning.{U32, Fits, EncodeDecode, DecodeEncode}
use Rattle.call_encoding.proofs.Bytes.{same_refl, same_equal, same_known}
use Rattle.call_encoding.proofs.Calls.{picked}

whole : (v : ℕ) → U32 v → v % 256 ^ 4 ≡ v
whole v h = omega arith

module _ (f : Fields) (own : ℕ) where
  -- the four bytes before the numbers, and the bytes of each number
  first : List ℕ
  first = f.operation ∷ f.width ∷ f.space ∷ f.register ∷ []

  -- the fields and the length are read where they were put
  pub fields_back : Fits f → header_fields_at (call_header f own) ≡ f
  unfolding first call_header table_from
  fields_back k =
      let after-c : List ℕ = replicate 40 0 ++ big_bytes 4 own in
      let after-b : List ℕ = big_bytes 4 f.c ++ after-c in
      let after-a : List ℕ = big_bytes 4 f.b ++ after-b in
      let h = big_bytes_lem 4 f.handle first (big_bytes 4 f.a ++ after-a) ∙ whole f.handle k.handle in
      let a = big_bytes_lem 4 f.a (first ++ big_bytes 4 f.handle) after-a ∙ whole f.a k.a in
      let b = big_bytes_lem 4 f.b (first ++ (big_bytes 4 f.handle ++ big_bytes 4 f.a)) after-b ∙ whole f.b k.b in
      let c = big_bytes_lem 4 f.c (first ++ (big_bytes 4 f.handle ++ (big_bytes 4 f.a ++ big_bytes 4 f.b))) after-c ∙ whole f.c k.c in
      rw (h, a, b, c)

  pub own_back : U32 own → own_length (call_header f own) ≡ own
  unfolding first call_header table_from
  own_back k =
      big_bytes_lem 4 own (first ++ (big_bytes 4 f.handle ++ (big_bytes 4 f.a ++ (big_bytes 4 f.b ++ (big_bytes 4 f.c ++ replicate 40 0))))) [] ∙ whole own k

pub encode_decode : EncodeDecode
unfolding decoded
encode_decode c own h k =
    rw (fields_back (fields_of c) own h, own_back (fields_of c) own k, picked c, same_refl (encoded c own))

pub decode_encode : DecodeEncode
unfolding decoded
decode_encode l c own = by (same_bytes (encoded (candidate (header_fields_at l)) (own_length l)) l) refl
  where
    by : (b : Bool) → same_bytes (encoded (candidate (header_fields_at l)) (own_length l)) l ≡ b
        → cond b (known (candidate (header_fields_at l)) (own_length l)) None ≡ known c own → l ≡ encoded c own
    by true s e =
        let said = same_known e in
        rw (said.0, said.1) at (sym (same_equal (encoded (candidate (header_fields_at l)) (own_length l)) l s))
    by false s e = let z : ◌≡◌ {A = ℕ} 0 1 = cc in absurd (omega arith)
