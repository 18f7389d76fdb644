-- For claim 4: a data call through h keeps like states alike.
use Prim.Native.Nat.{ℕ}
use mathlib.Core.Bool.{true, false≢true}
use mathlib.Core.Path.{◌≡◌, refl}
use mathlib.Core.List.{List}
use borrow.Author.Tests.{eqb-true}
use Rattle.numbers.specs.Numbers.{bytes}
use Rattle.board.specs.Spaces.{space_number}
use Rattle.data_cells.specs.Cells.{CellTarget}
use Rattle.data_cells.specs.declared.target.Cells.{Cells}
use Rattle.std.specs.Prelude.{Ok, Err}
use Rattle.call.specs.declared.call.Call.{Call}
use Rattle.call.specs.declared.call.Access.TheVariants.{Read, FastRead, Write}
use Rattle.call.specs.declared.call.Call.TheVariants.{Load, Reset, WriteImage, Config, Data, GetResource, HookInterrupt, UnhookInterrupt, SetCardUsed, Ask}
use Rattle.reference.specs.Reference.{Reference, write_data_of, reference_step}
use Rattle.reference.specs.Claims.{struck_out}
use Rattle.reference.proofs.InSlot.{InSlot, in_slot}
use Rattle.reference.proofs.Like.{Like, others_hidden}

-- the cells of an access, if there are any, lies in a window of the handle's function
abbrev pub Lies : Reference → ℕ → ℕ → CellTarget → Type 0
Lies b w handle p = (c : Cells) → p ≡ Ok c → InSlot b w handle c.at

-- a data write through h
hidden : {h : ℕ} {b d : Reference} → Like h b d → (w handle value : ℕ) (own : List ℕ) → handle ≡ h → (p : CellTarget) → Lies b w handle p
    → Like h (write_data_of b w value own p).reference d
hidden {h} {b} {d} l w handle value own q (Ok c) s =
    record {
      few = l.few;
      rest = l.rest;
      others = others_hidden b b.cells d.cells l.others w handle c.at c.order (s c refl) value q;
    }
hidden l w handle value own q (Err r) s = l

pub quiet : {h : ℕ} {b d : Reference} → Like h b d → (c : Call) (own : List ℕ) → struck_out h c ≡ true
    → Like h (reference_step b c own).reference d
unfolding reference_step
quiet l Load own t = absurd (false≢true t)
quiet l Reset own t = absurd (false≢true t)
quiet l WriteImage own t = absurd (false≢true t)
quiet l (Config width handle register access) own t = absurd (false≢true t)
quiet l (Data space width handle address Read) own t = l
quiet l (Data space width handle address FastRead) own t = l
quiet {h} {b} l (Data space width handle address (Write value)) own t =
    hidden l (bytes width) handle value own (eqb-true handle h t) _ (in_slot b width (space_number space) handle address)
quiet l (GetResource handle) own t = absurd (false≢true t)
quiet l (HookInterrupt handle handler parameter) own t = absurd (false≢true t)
quiet l (UnhookInterrupt handle) own t = absurd (false≢true t)
quiet l (SetCardUsed handle status call_back) own t = absurd (false≢true t)
quiet l (Ask query) own t = l
