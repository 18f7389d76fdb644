-- Each call of `perform`: its function's contract gives the step.
use Prim.Native.Nat.{ℕ}
use mathlib.Core.Path.{◌≡◌, sym}
use mathlib.Core.List.{List}
use Rattle.board.specs.Parts.{Parts, with_registers, with_cells, with_hooks, with_used}
use Rattle.call_edition.specs.declared.edition.InEdition.{InEdition}
use Rattle.numbers.specs.declared.number.Width.{Width}
use Rattle.board.specs.Statuses.{Status}
use Rattle.board.specs.declared.space.Space.{Space}
use Rattle.resource.specs.Resource.{resource_outcome, get_resource}
use Rattle.interrupt_hook.specs.Chain.{HookOutcome, hook_outcome}
use Rattle.card_used.specs.Used.{mark_outcome, set_card_used}
use Rattle.reset.specs.Reset.{reset_outcome, reset}
use Rattle.load.specs.Load.{load_outcome, load}
use Rattle.image_writer.specs.Write.{writer_outcome, write_image}
use Rattle.image_refusals.specs.Refusals.{Verdict}
use Rattle.call.specs.declared.answer.Answer.{Answer}
use Rattle.call.specs.declared.call.Call.{Call}
use Rattle.call.specs.declared.call.Call.TheVariants.{Load, Reset, WriteImage, Config, Data, GetResource, SetCardUsed, Ask}
use Rattle.call.specs.declared.call.Query.{Query}
use Rattle.call.specs.declared.call.Access.{Access}
use Rattle.call.specs.Answers.{of_status, of_verdict}
use Rattle.reference.specs.State.{outcome, step, queried, blanked, config_outcome, config_access, data_outcome, data_access}

-- a query: its answer is made of what its function gives
pub arm_query : {A : Type 0} (of : A → Answer) (p : Parts) (q d : Query) (v w : A) (r : Answer) → q ≡ d → r ≡ of v → v ≡ w → queried p d ≡ of w
    → r ≡ queried p q
arm_query of p q d v w r e a k s = rw (e, a, k) (sym s)

pub arm_ask : (p : Parts) (own : List ℕ) (c : Call) (q : Query) (r : Answer) → c ≡ Ask q → r ≡ queried (blanked p) q → outcome r p own ≡ step p c own
unfolding step
arm_ask p own c q r e a = rw (e, a)

pub arm_load : (p q : Parts) (own : List ℕ) (c : Call) (v : Verdict) (r : Answer) → c ≡ Load
    → r ≡ of_verdict v → load_outcome v q ≡ load p own → outcome r q own ≡ step p c own
unfolding step
arm_load p q own c v r e a l = rw (e, a, ← l)

pub arm_reset : (p q : Parts) (own : List ℕ) (c : Call) (s : Status) (r : Answer) → c ≡ Reset → r ≡ of_status s → reset_outcome s q ≡ reset p
    → outcome r q own ≡ step p c own
unfolding step
arm_reset p q own c s r e a l = rw (e, a, ← l)

pub arm_write : (p : Parts) (own out : List ℕ) (c : Call) (v : Verdict) (r : Answer) → c ≡ WriteImage → r ≡ of_verdict v
    → writer_outcome v out ≡ write_image p.header p.records own → outcome r p out ≡ step p c own
unfolding step
arm_write p own out c v r e a w = rw (e, a, ← w)

pub arm_config : (p : Parts) (own registers windows : List ℕ) (c : Call) (w : Width) (h register : ℕ) (access : Access) (r : Answer)
    → c ≡ Config w h register access
    → config_outcome r registers windows ≡ config_access p.header p.records p.registers p.windows w h register access
    → outcome r (with_registers registers windows p) own ≡ step p c own
unfolding step
arm_config p own registers windows c w h register access r e k = rw (e, ← k)

pub arm_data : (p : Parts) (own cells : List ℕ) (c : Call) (space : Space) (w : Width) (h : ℕ) (address : InEdition) (access : Access) (r : Answer)
    → c ≡ Data space w h address access
    → data_outcome r cells ≡ data_access p.header p.records p.windows p.cell_offsets p.cells space w h address access
    → outcome r (with_cells cells p) own ≡ step p c own
unfolding step
arm_data p own cells c space w h address access r e k = rw (e, ← k)

-- the descriptors go to the call's own buffer
pub arm_resource : (p : Parts) (own out : List ℕ) (c : Call) (h : ℕ) (s : Status) (r : Answer) → c ≡ GetResource h → r ≡ of_status s
    → resource_outcome s out ≡ get_resource p.header p.records p.registers p.windows h own → outcome r p out ≡ step p c own
unfolding step
arm_resource p own out c h s r e a k = rw (e, a, ← k)

-- a call that changes the hooks only
pub arm_hooks : (p : Parts) (own hooks : List ℕ) (c d : Call) (w : HookOutcome) (s : Status) (r : Answer) → c ≡ d → r ≡ of_status s
    → hook_outcome s hooks ≡ w → step p d own ≡ outcome (of_status w.status) (with_hooks w.hooks p) own
    → outcome r (with_hooks hooks p) own ≡ step p c own
arm_hooks p own hooks c d w s r e a k t = rw (e, a, t, ← k)

pub arm_set_used : (p : Parts) (own used : List ℕ) (c : Call) (h status call_back : ℕ) (s : Status) (r : Answer)
    → c ≡ SetCardUsed h status call_back → r ≡ of_status s → mark_outcome s used ≡ set_card_used p.header p.used h status call_back
    → outcome r (with_used used p) own ≡ step p c own
unfolding step
arm_set_used p own used c h status call_back s r e a k = rw (e, a, ← k)
