-- The calls of the table: which is picked, and that each is picked by its own fields.
use Prim.Native.Nat.{ℕ, zero, suc, ◌-◌, ◌≤◌}
use native.Mathlib.Omega.{arith}
use mathlib.Core.Bool.{Bool, true, false, cond}
use mathlib.Core.Path.{◌≡◌, refl, sym}
use lib.Dec.{eqb, ltb}
use lib.ListN.{length, get_or, get_or-eq_default}
use borrow.Author.Tests.{eqb-true, ltb-true, ltb-false}
use Rattle.call.specs.declared.call.Call.{Call}
use Rattle.call.specs.declared.call.Access.TheVariants.{Read, FastRead, Write}
use Rattle.call.specs.declared.call.Call.TheVariants.{Load, Reset, WriteImage, Config, Data, GetResource, HookInterrupt, UnhookInterrupt, SetCardUsed, Ask}
use Rattle.call.specs.declared.call.Query.TheVariants.{FindPciDevice, FindPciClasscode, BusToCpu, CpuToBus, ListWindow, ListChain, GetCardUsed, SpecialCycle, GetRouting, SetInterrupt}
use Rattle.call_encoding.specs.declared.fields.Fields.{Fields}
use Rattle.numbers.specs.Numbers.{bytes}
use Rattle.numbers.specs.declared.number.Width.{Width}
use Rattle.numbers.specs.declared.number.Width.TheVariants.{Byte, Word, Long}
use Rattle.board.specs.Spaces.{space_number}
use Rattle.board.specs.declared.space.Space.{Space}
use Rattle.board.specs.declared.space.Space.TheVariants.{Memory, Io}
use Rattle.call_encoding.specs.Format.{exchanged, fields_of, width_of_byte, space_of_byte, candidates, candidate}

-- none of the numbers 1 to n
abbrev pub NoneOf : ℕ → ℕ → Type 0
NoneOf k zero = Unit {0}
NoneOf k (suc n) = NoneOf k n × (k ≡ suc n → ⊥)

none_small : (k n : ℕ) → NoneOf k n → k ≤ n → k ≡ 0
none_small k zero r h = omega arith
none_small k (suc n) r h = none_small k n r.0 (omega arith)

-- an operation that the table does not have is read as its first row
pub unknown : (f : Fields) → NoneOf f.operation (length (candidates f)) → Load ≡ candidate f
unfolding candidate
unknown f r = by (ltb (length (candidates f)) f.operation) refl
  where
    by : (b : Bool) → ltb (length (candidates f)) f.operation ≡ b → Load ≡ get_or (candidates f) (f.operation - 1) Load
    by true e = let h = ltb-true (length (candidates f)) f.operation e in sym (get_or-eq_default (candidates f) Load {n = f.operation - 1} (omega arith))
    by false e = rw (none_small f.operation (length (candidates f)) r (ltb-false (length (candidates f)) f.operation e))

width_back : (w : Width) → width_of_byte (bytes w) ≡ w
width_back Byte = refl
width_back Word = refl
width_back Long = refl

space_back : (s : Space) → space_of_byte (space_number s) ≡ s
space_back Memory = refl
space_back Io = refl

-- an edition comes back from argument c
exchanged_back : (n : ℕ) → exchanged (exchanged n) ≡ n
exchanged_back n = by (eqb n 0) (eqb n 2) refl refl
  where
    by : (z t : Bool) → eqb n 0 ≡ z → eqb n 2 ≡ t → exchanged (cond z 2 (cond t 0 n)) ≡ n
    by true t z e = sym (eqb-true n 0 z)
    by false true z e = sym (eqb-true n 2 e)
    by false false z e = rw (z, e)

-- a call is picked by its own fields
pub picked : (c : Call) → candidate (fields_of c) ≡ c
unfolding candidate
picked Load = refl
picked Reset = refl
picked WriteImage = refl
picked (Ask (FindPciDevice id index)) = rw (exchanged_back id.edition)
picked (Ask (FindPciClasscode class index)) = rw (exchanged_back class.edition)
picked (Config w h r Read) = rw (width_back w)
picked (Config w h r FastRead) = rw (width_back w)
picked (Config w h r (Write v)) = rw (width_back w)
picked (Data s w h a Read) = rw (space_back s, width_back w, exchanged_back a.edition)
picked (Data s w h a FastRead) = rw (space_back s, width_back w, exchanged_back a.edition)
picked (Data s w h a (Write v)) = rw (space_back s, width_back w, exchanged_back a.edition)
picked (Ask (BusToCpu h a)) = refl
picked (Ask (CpuToBus h a)) = refl
picked (Ask (ListWindow n)) = refl
picked (GetResource handle) = refl
picked (HookInterrupt handle handler parameter) = refl
picked (UnhookInterrupt handle) = refl
picked (Ask (ListChain line index)) = refl
picked (Ask (GetCardUsed handle)) = refl
picked (SetCardUsed handle status call_back) = refl
picked (Ask (SpecialCycle bus message)) = refl
picked (Ask (GetRouting handle)) = refl
picked (Ask (SetInterrupt handle mode)) = refl
