-- Rows with literal numbers of docs/SCRIPT.md: the headers of the 23 calls, what is malformed, and
-- the bytes of answers.
use Rattle.std.specs.Prelude.{ℕ, Bool, true, false, Option, None, Some, List, [], ◌∷◌, ◌++◌, map, ◌≡◌, pos, neg_ℤ, set, replicate, take, drop}
use Rattle.board.specs.Addresses.{bus, cpu}
use Rattle.call_edition.specs.Edition.{in_edition, in_later}
use Rattle.board.specs.declared.space.Space.TheVariants.{Memory, Io}
use Rattle.numbers.specs.declared.number.Width.TheVariants.{Byte, Word, Long}
use Rattle.call.specs.declared.call.Call.{Call}
use Rattle.call.specs.declared.call.Access.TheVariants.{Read, FastRead, Write}
use Rattle.call.specs.declared.call.Call.TheVariants.{
  Load,
  Reset,
  WriteImage,
  Config,
  Data,
  GetResource,
  HookInterrupt,
  UnhookInterrupt,
  SetCardUsed,
  Ask,
}
use Rattle.call.specs.declared.call.Query.TheVariants.{
  FindPciDevice,
  FindPciClasscode,
  BusToCpu,
  CpuToBus,
  ListWindow,
  ListChain,
  GetCardUsed,
  SpecialCycle,
  GetRouting,
  SetInterrupt,
}
use Rattle.call_encoding.specs.declared.decode.Decoded.{Decoded}
use Rattle.call_encoding.specs.Format.{encoded, known, decoded, answer_bytes}

-- the calls by operation, no two arguments alike; in the later text
abbrev calls : List Call
calls =
    Load
    ∷ Reset
    ∷ WriteImage
    ∷ Ask (FindPciDevice (in_later 0x05060708) 0x090A0B0C)
    ∷ Ask (FindPciClasscode (in_later 0x05060708) 0x090A0B0C)
    ∷ Config Byte 0x01020304 13 Read
    ∷ Config Word 0x01020304 13 FastRead
    ∷ Config Long 0x01020304 13 (Write 0x05060708)
    ∷ Data Memory Byte 0x01020304 (in_later 0x05060708) Read
    ∷ Data Io Word 0x01020304 (in_later 0x05060708) FastRead
    ∷ Data Io Long 0x01020304 (in_later 0x05060708) (Write 0x090A0B0C)
    ∷ Ask (BusToCpu 0x01020304 (bus 0x05060708))
    ∷ Ask (CpuToBus 0x01020304 (cpu 0x05060708))
    ∷ Ask (ListWindow 0x05060708)
    ∷ GetResource 0x01020304
    ∷ HookInterrupt 0x01020304 0x05060708 0x090A0B0C
    ∷ UnhookInterrupt 0x01020304
    ∷ Ask (ListChain 0x05060708 0x090A0B0C)
    ∷ Ask (GetCardUsed 0x01020304)
    ∷ SetCardUsed 0x01020304 0x05060708 0x090A0B0C
    ∷ Ask (SpecialCycle 13 0x05060708)
    ∷ Ask (GetRouting 0x01020304)
    ∷ Ask (SetInterrupt 0x01020304 0x05060708)
    ∷ []

-- operation, width, space, register or bus; handle; a; b
abbrev starts : List (List ℕ)
starts =
    (1 ∷ 0 ∷ 0 ∷ 0 ∷ 0 ∷ 0 ∷ 0 ∷ 0 ∷ 0 ∷ 0 ∷ 0 ∷ 0 ∷ 0 ∷ 0 ∷ 0 ∷ 0 ∷ [])
    ∷ (2 ∷ 0 ∷ 0 ∷ 0 ∷ 0 ∷ 0 ∷ 0 ∷ 0 ∷ 0 ∷ 0 ∷ 0 ∷ 0 ∷ 0 ∷ 0 ∷ 0 ∷ 0 ∷ [])
    ∷ (3 ∷ 0 ∷ 0 ∷ 0 ∷ 0 ∷ 0 ∷ 0 ∷ 0 ∷ 0 ∷ 0 ∷ 0 ∷ 0 ∷ 0 ∷ 0 ∷ 0 ∷ 0 ∷ [])
    ∷ (4 ∷ 0 ∷ 0 ∷ 0 ∷ 0 ∷ 0 ∷ 0 ∷ 0 ∷ 5 ∷ 6 ∷ 7 ∷ 8 ∷ 9 ∷ 10 ∷ 11 ∷ 12 ∷ [])
    ∷ (5 ∷ 0 ∷ 0 ∷ 0 ∷ 0 ∷ 0 ∷ 0 ∷ 0 ∷ 5 ∷ 6 ∷ 7 ∷ 8 ∷ 9 ∷ 10 ∷ 11 ∷ 12 ∷ [])
    ∷ (6 ∷ 1 ∷ 0 ∷ 13 ∷ 1 ∷ 2 ∷ 3 ∷ 4 ∷ 0 ∷ 0 ∷ 0 ∷ 0 ∷ 0 ∷ 0 ∷ 0 ∷ 0 ∷ [])
    ∷ (7 ∷ 2 ∷ 0 ∷ 13 ∷ 1 ∷ 2 ∷ 3 ∷ 4 ∷ 0 ∷ 0 ∷ 0 ∷ 0 ∷ 0 ∷ 0 ∷ 0 ∷ 0 ∷ [])
    ∷ (8 ∷ 4 ∷ 0 ∷ 13 ∷ 1 ∷ 2 ∷ 3 ∷ 4 ∷ 5 ∷ 6 ∷ 7 ∷ 8 ∷ 0 ∷ 0 ∷ 0 ∷ 0 ∷ [])
    ∷ (9 ∷ 1 ∷ 0 ∷ 0 ∷ 1 ∷ 2 ∷ 3 ∷ 4 ∷ 5 ∷ 6 ∷ 7 ∷ 8 ∷ 0 ∷ 0 ∷ 0 ∷ 0 ∷ [])
    ∷ (10 ∷ 2 ∷ 1 ∷ 0 ∷ 1 ∷ 2 ∷ 3 ∷ 4 ∷ 5 ∷ 6 ∷ 7 ∷ 8 ∷ 0 ∷ 0 ∷ 0 ∷ 0 ∷ [])
    ∷ (11 ∷ 4 ∷ 1 ∷ 0 ∷ 1 ∷ 2 ∷ 3 ∷ 4 ∷ 5 ∷ 6 ∷ 7 ∷ 8 ∷ 9 ∷ 10 ∷ 11 ∷ 12 ∷ [])
    ∷ (12 ∷ 0 ∷ 0 ∷ 0 ∷ 1 ∷ 2 ∷ 3 ∷ 4 ∷ 5 ∷ 6 ∷ 7 ∷ 8 ∷ 0 ∷ 0 ∷ 0 ∷ 0 ∷ [])
    ∷ (13 ∷ 0 ∷ 0 ∷ 0 ∷ 1 ∷ 2 ∷ 3 ∷ 4 ∷ 5 ∷ 6 ∷ 7 ∷ 8 ∷ 0 ∷ 0 ∷ 0 ∷ 0 ∷ [])
    ∷ (14 ∷ 0 ∷ 0 ∷ 0 ∷ 0 ∷ 0 ∷ 0 ∷ 0 ∷ 5 ∷ 6 ∷ 7 ∷ 8 ∷ 0 ∷ 0 ∷ 0 ∷ 0 ∷ [])
    ∷ (15 ∷ 0 ∷ 0 ∷ 0 ∷ 1 ∷ 2 ∷ 3 ∷ 4 ∷ 0 ∷ 0 ∷ 0 ∷ 0 ∷ 0 ∷ 0 ∷ 0 ∷ 0 ∷ [])
    ∷ (16 ∷ 0 ∷ 0 ∷ 0 ∷ 1 ∷ 2 ∷ 3 ∷ 4 ∷ 5 ∷ 6 ∷ 7 ∷ 8 ∷ 9 ∷ 10 ∷ 11 ∷ 12 ∷ [])
    ∷ (17 ∷ 0 ∷ 0 ∷ 0 ∷ 1 ∷ 2 ∷ 3 ∷ 4 ∷ 0 ∷ 0 ∷ 0 ∷ 0 ∷ 0 ∷ 0 ∷ 0 ∷ 0 ∷ [])
    ∷ (18 ∷ 0 ∷ 0 ∷ 0 ∷ 0 ∷ 0 ∷ 0 ∷ 0 ∷ 5 ∷ 6 ∷ 7 ∷ 8 ∷ 9 ∷ 10 ∷ 11 ∷ 12 ∷ [])
    ∷ (19 ∷ 0 ∷ 0 ∷ 0 ∷ 1 ∷ 2 ∷ 3 ∷ 4 ∷ 0 ∷ 0 ∷ 0 ∷ 0 ∷ 0 ∷ 0 ∷ 0 ∷ 0 ∷ [])
    ∷ (20 ∷ 0 ∷ 0 ∷ 0 ∷ 1 ∷ 2 ∷ 3 ∷ 4 ∷ 5 ∷ 6 ∷ 7 ∷ 8 ∷ 9 ∷ 10 ∷ 11 ∷ 12 ∷ [])
    ∷ (21 ∷ 0 ∷ 0 ∷ 13 ∷ 0 ∷ 0 ∷ 0 ∷ 0 ∷ 5 ∷ 6 ∷ 7 ∷ 8 ∷ 0 ∷ 0 ∷ 0 ∷ 0 ∷ [])
    ∷ (22 ∷ 0 ∷ 0 ∷ 0 ∷ 1 ∷ 2 ∷ 3 ∷ 4 ∷ 0 ∷ 0 ∷ 0 ∷ 0 ∷ 0 ∷ 0 ∷ 0 ∷ 0 ∷ [])
    ∷ (23 ∷ 0 ∷ 0 ∷ 0 ∷ 1 ∷ 2 ∷ 3 ∷ 4 ∷ 5 ∷ 6 ∷ 7 ∷ 8 ∷ 0 ∷ 0 ∷ 0 ∷ 0 ∷ [])
    ∷ []

-- a data write and a device search, whole
abbrev data_write : List ℕ
data_write =
    11 ∷ 4 ∷ 1 ∷ 0 ∷ 1 ∷ 2 ∷ 3 ∷ 4 ∷ 5 ∷ 6 ∷ 7 ∷ 8 ∷ 9 ∷ 10 ∷ 11 ∷ 12
    ∷ replicate 44 0 ++ 14 ∷ 15 ∷ 16 ∷ 17 ∷ []

abbrev device_search : List ℕ
device_search =
    4 ∷ 0 ∷ 0 ∷ 0 ∷ 0 ∷ 0 ∷ 0 ∷ 0 ∷ 5 ∷ 6 ∷ 7 ∷ 8 ∷ 9 ∷ 10 ∷ 11 ∷ 12
    ∷ replicate 44 0 ++ 0 ∷ 0 ∷ 0 ∷ 0 ∷ []

-- argument c of a call
abbrev c : Call → List ℕ
c call = take 4 (drop 16 (encoded call 0))

-- the calls that name an edition, in one
abbrev named_in : ℕ → List Call
named_in edition =
    Ask (FindPciDevice (in_edition 5 edition) 6)
    ∷ Ask (FindPciClasscode (in_edition 5 edition) 6)
    ∷ Data Memory Byte 1 (in_edition 5 edition) Read
    ∷ Data Memory Byte 1 (in_edition 5 edition) FastRead
    ∷ Data Memory Byte 1 (in_edition 5 edition) (Write 6)
    ∷ []

abbrev is_call : Option Decoded → Bool
is_call (Some d) = true
is_call None = false

pub record CallEncodingRows : Type 0 where
  -- bytes 0..15 of every call
  pub headers : map (λ c. take 16 (encoded c 0)) calls ≡ starts
  -- 16..59 are 0 in the later text, 60..63 the length of the call's own buffer
  pub whole_write :
      encoded (Data Io Long 0x01020304 (in_later 0x05060708) (Write 0x090A0B0C)) 0x0E0F1011
      ≡ data_write
  pub whole_search : encoded (Ask (FindPciDevice (in_later 0x05060708) 0x090A0B0C)) 0 ≡ device_search
  -- and read back
  pub read_write :
      decoded data_write
      ≡ known (Data Io Long 0x01020304 (in_later 0x05060708) (Write 0x090A0B0C)) 0x0E0F1011
  pub read_search :
      decoded device_search ≡ known (Ask (FindPciDevice (in_later 0x05060708) 0x090A0B0C)) 0
  -- malformed: another operation
  pub operations :
      map (λ n. is_call (decoded (n ∷ replicate 63 0))) (0 ∷ 1 ∷ 23 ∷ 24 ∷ 255 ∷ [])
      ≡ false ∷ true ∷ true ∷ false ∷ false ∷ []
  -- another width
  pub widths :
      map (λ n. is_call (decoded (6 ∷ n ∷ replicate 62 0))) (0 ∷ 1 ∷ 2 ∷ 3 ∷ 4 ∷ 5 ∷ [])
      ≡ false ∷ true ∷ true ∷ false ∷ true ∷ false ∷ []
  -- another space
  pub spaces :
      map (λ n. is_call (decoded (9 ∷ 1 ∷ n ∷ replicate 61 0))) (0 ∷ 1 ∷ 2 ∷ [])
      ≡ true ∷ true ∷ false ∷ []
  -- a byte that is to be 0 and is not: of a search width, space, register, handle and the bytes
  -- after c, and not its arguments and its length
  pub unused :
      map (λ i. is_call (decoded (set device_search i 1)))
      (1 ∷ 2 ∷ 3 ∷ 4 ∷ 7 ∷ 20 ∷ 59 ∷ 15 ∷ 16 ∷ 19 ∷ 60 ∷ [])
      ≡ false ∷ false ∷ false ∷ false ∷ false ∷ false ∷ false ∷ true ∷ true ∷ true ∷ true ∷ []
  -- 16..19: the edition with 0 and 2 exchanged, of searches and data calls
  pub editions :
      map (λ e. map c (named_in e)) (0 ∷ 1 ∷ 2 ∷ 3 ∷ 0x102 ∷ 0xFFFFFFFF ∷ [])
      ≡ replicate 5 (0 ∷ 0 ∷ 0 ∷ 2 ∷ [])
      ∷ replicate 5 (0 ∷ 0 ∷ 0 ∷ 1 ∷ [])
      ∷ replicate 5 (0 ∷ 0 ∷ 0 ∷ 0 ∷ [])
      ∷ replicate 5 (0 ∷ 0 ∷ 0 ∷ 3 ∷ [])
      ∷ replicate 5 (0 ∷ 0 ∷ 1 ∷ 2 ∷ [])
      ∷ replicate 5 (0xFF ∷ 0xFF ∷ 0xFF ∷ 0xFF ∷ [])
      ∷ []
  pub read_editions :
      map (λ n. decoded (set device_search 19 n)) (0 ∷ 1 ∷ 2 ∷ 3 ∷ [])
      ≡ map (λ e. known (Ask (FindPciDevice (in_edition 0x05060708 e) 0x090A0B0C)) 0)
      (2 ∷ 1 ∷ 0 ∷ 3 ∷ [])
  -- and of no other call
  pub no_edition :
      map (λ call. is_call (decoded (set (encoded call 0) 19 1))) calls
      ≡ false ∷ false ∷ false ∷ true ∷ true ∷ false ∷ false ∷ false ∷ true ∷ true ∷ true
      ∷ replicate 12 false
  -- 63, 64 and 65 bytes
  pub sizes :
      map (λ n. is_call (decoded (1 ∷ replicate n 0))) (62 ∷ 63 ∷ 64 ∷ [])
      ≡ false ∷ true ∷ false ∷ []
  -- an answer: -9, refused, the six values, and the length as it was
  pub refused :
      answer_bytes
      (record {
        number = neg_ℤ (pos 9);
        refused = true;
        values =
            0x1112131415161718 ∷ 0x2122232425262728 ∷ 0x3132333435363738
            ∷ 0x4142434445464748 ∷ 0x5152535455565758 ∷ 0x6162636465666768 ∷ [];
      })
      0x71727374
      ≡ 0xFF ∷ 0xFF ∷ 0xFF ∷ 0xF7 ∷ 1 ∷ 0 ∷ 0 ∷ 0
      ∷ 0x11 ∷ 0x12 ∷ 0x13 ∷ 0x14 ∷ 0x15 ∷ 0x16 ∷ 0x17 ∷ 0x18
      ∷ 0x21 ∷ 0x22 ∷ 0x23 ∷ 0x24 ∷ 0x25 ∷ 0x26 ∷ 0x27 ∷ 0x28
      ∷ 0x31 ∷ 0x32 ∷ 0x33 ∷ 0x34 ∷ 0x35 ∷ 0x36 ∷ 0x37 ∷ 0x38
      ∷ 0x41 ∷ 0x42 ∷ 0x43 ∷ 0x44 ∷ 0x45 ∷ 0x46 ∷ 0x47 ∷ 0x48
      ∷ 0x51 ∷ 0x52 ∷ 0x53 ∷ 0x54 ∷ 0x55 ∷ 0x56 ∷ 0x57 ∷ 0x58
      ∷ 0x61 ∷ 0x62 ∷ 0x63 ∷ 0x64 ∷ 0x65 ∷ 0x66 ∷ 0x67 ∷ 0x68
      ∷ 0 ∷ 0 ∷ 0 ∷ 0 ∷ 0x71 ∷ 0x72 ∷ 0x73 ∷ 0x74 ∷ []
  -- a handle found
  pub accepted :
      answer_bytes (record { number = pos 1; refused = false; values = replicate 6 0 }) 0
      ≡ 0 ∷ 0 ∷ 0 ∷ 1 ∷ replicate 60 0
