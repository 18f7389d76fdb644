-- What the format means, without the proofs: docs/SCRIPT.md, "What is proved".
use Rattle.std.specs.Prelude.{ℕ, ◌<◌, ◌^◌, List, ◌≡◌}
use Rattle.call.specs.declared.call.Call.{Call}
use Rattle.call_encoding.specs.declared.fields.Fields.{Fields}
use Rattle.call_encoding.specs.Format.{fields_of, encoded, known, decoded}

abbrev pub U32 : ℕ → Type 0
U32 n = n < 2 ^ 32

-- the fields that take four bytes fit there; those of one byte stand in the header as they are
pub record Fits (f : Fields) : Type 0 where
  pub handle : U32 f.handle
  pub a : U32 f.a
  pub b : U32 f.b
  pub c : U32 f.c

-- the types can hold this call
abbrev pub TypesHold : Call → Type 0
TypesHold c = Fits (fields_of c)

-- ENCODE THEN DECODE is the identity, for every call that the types can hold and every length of
-- its own buffer
abbrev pub EncodeDecode : Type 0
EncodeDecode = (c : Call) (own : ℕ) → TypesHold c → U32 own → decoded (encoded c own) ≡ known c own

-- DECODE THEN ENCODE is the identity: bytes that are read as a call are that call's header, so no
-- two headers say the same
abbrev pub DecodeEncode : Type 0
DecodeEncode = (l : List ℕ) (c : Call) (own : ℕ) → decoded l ≡ known c own → l ≡ encoded c own
