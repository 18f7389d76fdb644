-- The header of a call in a script, and the answer that is written over it: docs/SCRIPT.md.
-- A header is decoded by encoding: its fields leave one call that it can be (`candidate`), and it
-- is that call's exactly if it is the call's encoding, byte for byte. So no rule for each call says
-- which of its fields are 0, and no two headers say the same call with the same own length.
use Rattle.std.specs.Prelude.{ℕ, ◌-◌, Bool, true, false, cond, ◌&&◌, List, [], ◌∷◌, ◌++◌, Option, None, Some, eqb, get_or, replicate}
use Rattle.numbers.specs.Numbers.{byte_at, bytes, big, big_bytes, bits}
use Rattle.board.specs.Addresses.{bus, cpu}
use Rattle.call_edition.specs.Edition.{in_edition}
use Rattle.call_edition.specs.declared.edition.InEdition.{InEdition}
use Rattle.numbers.specs.declared.number.Width.{Width}
use Rattle.numbers.specs.declared.number.Width.TheVariants.{Byte, Word, Long}
use Rattle.board.specs.Spaces.{space_number}
use Rattle.board.specs.declared.space.Space.{Space}
use Rattle.board.specs.declared.space.Space.TheVariants.{Memory, Io}
use Rattle.call.specs.declared.answer.Answer.{Answer}
use Rattle.call.specs.declared.call.Call.{Call}
use Rattle.call.specs.declared.call.Access.TheVariants.{Read, FastRead, Write}
use Rattle.call.specs.declared.call.Call.TheVariants.{
  Load,
  Reset,
  WriteImage,
  Config,
  Data,
  GetResource,
  HookInterrupt,
  UnhookInterrupt,
  SetCardUsed,
  Ask,
}
use Rattle.call.specs.declared.call.Query.TheVariants.{
  FindPciDevice,
  FindPciClasscode,
  BusToCpu,
  CpuToBus,
  ListWindow,
  ListChain,
  GetCardUsed,
  SpecialCycle,
  GetRouting,
  SetInterrupt,
}
use Rattle.call_encoding.specs.declared.fields.Fields.{Fields}
use Rattle.call_encoding.specs.declared.decode.Decoded.{Decoded}

abbrev pub fields : ℕ → ℕ → ℕ → ℕ → ℕ → ℕ → ℕ → Fields
fields operation width space register handle a b =
    record {
      operation = operation;
      width = width;
      space = space;
      register = register;
      handle = handle;
      a = a;
      b = b;
      c = 0;
    }

-- argument c of the calls that name an edition: the edition, with 0 and 2 exchanged, so that where
-- it is 0, as in every header from before request E1, it says the later text
abbrev pub exchanged : ℕ → ℕ
exchanged n = cond (eqb n 0) 2 (cond (eqb n 2) 0 n)

abbrev pub with_edition : InEdition → Fields → Fields
with_edition named f =
    record {
      operation = f.operation;
      width = f.width;
      space = f.space;
      register = f.register;
      handle = f.handle;
      a = f.a;
      b = f.b;
      c = exchanged named.edition;
    }

-- what each call says: operation, width, space, register or bus, handle, a, b; c of the calls that
-- name an edition, and 0 of all others
abbrev pub fields_of : Call → Fields
fields_of Load = fields 1 0 0 0 0 0 0
fields_of Reset = fields 2 0 0 0 0 0 0
fields_of WriteImage = fields 3 0 0 0 0 0 0
fields_of (Ask (FindPciDevice id index)) = with_edition id (fields 4 0 0 0 0 id.number index)
fields_of (Ask (FindPciClasscode class index)) =
    with_edition class (fields 5 0 0 0 0 class.number index)
fields_of (Config width handle register Read) = fields 6 (bytes width) 0 register handle 0 0
fields_of (Config width handle register FastRead) = fields 7 (bytes width) 0 register handle 0 0
fields_of (Config width handle register (Write value)) =
    fields 8 (bytes width) 0 register handle value 0
fields_of (Data space width handle address Read) =
    with_edition address (fields 9 (bytes width) (space_number space) 0 handle address.number 0)
fields_of (Data space width handle address FastRead) =
    with_edition address (fields 10 (bytes width) (space_number space) 0 handle address.number 0)
fields_of (Data space width handle address (Write value)) =
    with_edition address
    (fields 11 (bytes width) (space_number space) 0 handle address.number value)
fields_of (Ask (BusToCpu handle address)) = fields 12 0 0 0 handle address.0 0
fields_of (Ask (CpuToBus handle address)) = fields 13 0 0 0 handle address.0 0
fields_of (Ask (ListWindow n)) = fields 14 0 0 0 0 n 0
fields_of (GetResource handle) = fields 15 0 0 0 handle 0 0
fields_of (HookInterrupt handle handler parameter) = fields 16 0 0 0 handle handler parameter
fields_of (UnhookInterrupt handle) = fields 17 0 0 0 handle 0 0
fields_of (Ask (ListChain line index)) = fields 18 0 0 0 0 line index
fields_of (Ask (GetCardUsed handle)) = fields 19 0 0 0 handle 0 0
fields_of (SetCardUsed handle status call_back) = fields 20 0 0 0 handle status call_back
fields_of (Ask (SpecialCycle on_bus message)) = fields 21 0 0 on_bus 0 message 0
fields_of (Ask (GetRouting handle)) = fields 22 0 0 0 handle 0 0
fields_of (Ask (SetInterrupt handle mode)) = fields 23 0 0 0 handle mode 0

-- a width and a space of a byte, whatever it is: one that is none is not encoded back to itself
abbrev pub width_of_byte : ℕ → Width
width_of_byte n = cond (eqb n 2) Word (cond (eqb n 4) Long Byte)

abbrev pub space_of_byte : ℕ → Space
space_of_byte n = cond (eqb n 1) Io Memory

-- the calls that these fields would make, by operation from 1
abbrev pub candidates : Fields → List Call
candidates f =
    let w = width_of_byte f.width in
    let s = space_of_byte f.space in
    let h = f.handle in
    let r = f.register in
    let named : InEdition = in_edition f.a (exchanged f.c) in
    Load
    ∷ Reset
    ∷ WriteImage
    ∷ Ask (FindPciDevice named f.b)
    ∷ Ask (FindPciClasscode named f.b)
    ∷ Config w h r Read
    ∷ Config w h r FastRead
    ∷ Config w h r (Write f.a)
    ∷ Data s w h named Read
    ∷ Data s w h named FastRead
    ∷ Data s w h named (Write f.b)
    ∷ Ask (BusToCpu h (bus f.a))
    ∷ Ask (CpuToBus h (cpu f.a))
    ∷ Ask (ListWindow f.a)
    ∷ GetResource h
    ∷ HookInterrupt h f.a f.b
    ∷ UnhookInterrupt h
    ∷ Ask (ListChain f.a f.b)
    ∷ Ask (GetCardUsed h)
    ∷ SetCardUsed h f.a f.b
    ∷ Ask (SpecialCycle r f.a)
    ∷ Ask (GetRouting h)
    ∷ Ask (SetInterrupt h f.a)
    ∷ []

-- the only call that can have these fields
unfoldable pub candidate : Fields → Call
candidate f = get_or (candidates f) (f.operation - 1) Load

-- a header: the fields, zeros, and the length of the call's own buffer
abbrev pub call_header_size : ℕ
call_header_size = 64

unfoldable pub call_header : Fields → ℕ → List ℕ
call_header f own =
    f.operation ∷ f.width ∷ f.space ∷ f.register
    ∷ big_bytes 4 f.handle
    ++ (big_bytes 4 f.a
    ++ (big_bytes 4 f.b ++ (big_bytes 4 f.c ++ (replicate 40 0 ++ big_bytes 4 own))))

abbrev pub encoded : Call → ℕ → List ℕ
encoded c own = call_header (fields_of c) own

-- what stands at the positions of the fields and of that length
abbrev pub header_fields_at : List ℕ → Fields
header_fields_at l =
    record {
      operation = byte_at l 0;
      width = byte_at l 1;
      space = byte_at l 2;
      register = byte_at l 3;
      handle = big 4 (byte_at l) 4;
      a = big 4 (byte_at l) 8;
      b = big 4 (byte_at l) 12;
      c = big 4 (byte_at l) 16;
    }

abbrev pub own_length : List ℕ → ℕ
own_length l = big 4 (byte_at l) 60

unfoldable pub same_bytes : List ℕ → List ℕ → Bool
same_bytes [] [] = true
same_bytes [] (y ∷ m) = false
same_bytes (x ∷ l) [] = false
same_bytes (x ∷ l) (y ∷ m) = eqb x y && same_bytes l m

-- a header that says a call and the length of its own buffer
abbrev pub known : Call → ℕ → Option Decoded
known c own = Some (record { call = c; own = own })

-- a header is a call's if it is the encoding of the only call that it can be, byte for byte
unfoldable pub decoded : List ℕ → Option Decoded
decoded l =
    let c = candidate (header_fields_at l) in
    cond (same_bytes (encoded c (own_length l)) l) (known c (own_length l)) None

-- the low 8 bytes of a value
abbrev pub value_bytes : Answer → ℕ → List ℕ
value_bytes a i = big_bytes 8 (get_or a.values i 0)

-- an answer: its number, the refused flag, zeros, the six values, zeros, and the length of the own
-- buffer as it was
unfoldable pub answer_bytes : Answer → ℕ → List ℕ
answer_bytes a own =
    big_bytes 4 (bits a.number)
    ++ (cond a.refused 1 0 ∷ replicate 3 0
    ++ (value_bytes a 0 ++ (value_bytes a 1 ++ (value_bytes a 2
    ++ (value_bytes a 3 ++ (value_bytes a 4 ++ (value_bytes a 5
    ++ (replicate 4 0 ++ big_bytes 4 own))))))))
