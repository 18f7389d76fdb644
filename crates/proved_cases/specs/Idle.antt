-- Idle buses, and the row of the table that refuses each: document 01, "What the promises say".
-- Each is the reference machine but for one rule, so that the row fails for that rule alone.
use Rattle.std.specs.Prelude.{ℕ, ◌+◌, cond, List, [], ◌∷◌, ◌≡◌, ltb, ℤ, pos}
use Rattle.board.specs.Statuses.{number_of, successful, device_not_found}
use Rattle.call.specs.declared.call.Call.{Call}
use Rattle.call.specs.declared.call.Access.{Access}
use Rattle.call.specs.declared.call.Access.TheVariants.{Read, FastRead, Write}
use Rattle.call.specs.declared.call.Call.TheVariants.{
  Load,
  Reset,
  WriteImage,
  Config,
  Data,
  GetResource,
  HookInterrupt,
  UnhookInterrupt,
  SetCardUsed,
  Ask,
}
use Rattle.call.specs.declared.call.Query.{Query}
use Rattle.call.specs.declared.call.Query.TheVariants.{
  FindPciDevice,
  FindPciClasscode,
  BusToCpu,
  CpuToBus,
  ListChain,
  GetCardUsed,
  SpecialCycle,
  GetRouting,
  SetInterrupt,
  ListWindow,
}
use Rattle.call.specs.Answers.{answer, zeros, of_status}
use Rattle.reference.specs.Claims.{refusals}
use Rattle.reference.specs.Reference.{Reference, ReferenceOutcome, reference_outcome, reference_start}
use Rattle.reference.specs.Run.{Request, Response, response, reference_on}
use Rattle.proved_cases.specs.Cases.{
  Case,
  Machine,
  Holds,
  found_handle,
  cells2064,
  b1_list,
  p1,
  p2,
  p6,
  p10,
  p11,
}

-- the kinds of call that an idle bus may answer in a way of its own
pub data Kind : Type 0 where
  load : Kind
  search : Kind
  write : Kind
  list : ℕ → Kind
  other : Kind

abbrev pub access_kind : Access → Kind
access_kind Read = other
access_kind FastRead = other
access_kind (Write value) = write

abbrev pub query_kind : Query → Kind
query_kind (FindPciDevice id index) = search
query_kind (FindPciClasscode class index) = search
query_kind (BusToCpu handle address) = other
query_kind (CpuToBus handle address) = other
query_kind (ListChain line index) = other
query_kind (GetCardUsed handle) = other
query_kind (SpecialCycle bus message) = other
query_kind (GetRouting handle) = other
query_kind (SetInterrupt handle mode) = other
query_kind (ListWindow n) = list n

unfoldable pub kind_of : Call → Kind
kind_of Load = load
kind_of Reset = other
kind_of WriteImage = other
kind_of (Config width handle register access) = access_kind access
kind_of (Data space width handle address access) = access_kind access
kind_of (GetResource handle) = other
kind_of (HookInterrupt handle handler parameter) = other
kind_of (UnhookInterrupt handle) = other
kind_of (SetCardUsed handle status call_back) = other
kind_of (Ask query) = query_kind query

-- one thing for each kind, in this order
abbrev pub by_kind : {A : Type 0} → Kind → A → A → A → (ℕ → A) → A → A
by_kind load l s w k o = l
by_kind search l s w k o = s
by_kind write l s w k o = w
by_kind (list n) l s w k o = k n
by_kind other l s w k o = o

-- a bus that follows the reference machine but for a rule: the rule is given how many writes came
-- before, the state before the call, the request and the reference machine's outcome
abbrev pub Rule : Type 0
Rule = ℕ → Reference → Request → ReferenceOutcome → ReferenceOutcome

unfoldable pub ruled_run : Rule → ℕ → Reference → List Request → List Response
ruled_run rule n b [] = []
ruled_run rule n b (c ∷ cs) =
    let t = rule n b c (reference_on b c) in
    response t.answer t.own
    ∷ ruled_run rule (n + by_kind (kind_of c.call) 0 0 1 (λ k. 0) 0) t.reference cs

abbrev pub bus_under : Rule → Machine
bus_under rule = ruled_run rule 0 (reference_start cells2064)

-- it loads, and refuses everything else with the first number that the call can be refused with
abbrev pub first_of : List ℤ → ℤ
first_of [] = pos 0
first_of (z ∷ zs) = z

abbrev pub refuses_everything : Rule
refuses_everything n b c t =
    let refused = reference_outcome (answer (first_of (refusals c.call)) zeros) b c.own in
    by_kind (kind_of c.call) t refused refused (λ k. refused) refused

-- it gives handle 1 to every search
abbrev pub finds_handle1 : Rule
finds_handle1 n b c t =
    by_kind (kind_of c.call) t (reference_outcome (found_handle 1) t.reference t.own) t
    (λ k. t) t

-- of its writes only the first m do anything: with m 0 they do nothing, with m 1 it works once and
-- then stands still
abbrev pub writes_up_to : ℕ → Rule
writes_up_to m n b c t =
    by_kind (kind_of c.call) t t (cond (ltb n m) t (reference_outcome t.answer b t.own))
    (λ k. t) t

-- it lists m windows, however many are open
abbrev pub lists : ℕ → Rule
lists m n b c t =
    by_kind (kind_of c.call) t t t
    (λ k. reference_outcome
    (cond (ltb k m) (answer (number_of successful) t.answer.values) (of_status device_not_found))
    t.reference t.own)
    t

-- a row that a bus does not meet
abbrev pub Fails : Rule → Case → Type 0
Fails rule row = Holds (bus_under rule) row → ⊥

-- EVERY IDLE BUS IS REFUSED, by the rows that document 01 names; the one that stands still has met
-- P6, with one write
pub record IdleBuses : Type 0 where
  pub refuses_everything_p1 : Fails refuses_everything p1
  pub refuses_everything_p10 : Fails refuses_everything p10
  pub finds_handle1_p1 : Fails finds_handle1 p1
  pub finds_handle1_p2 : Fails finds_handle1 p2
  pub writes_do_nothing : Fails (writes_up_to 0) p6
  pub works_once : Holds (bus_under (writes_up_to 1)) p6
  pub stands_still : Fails (writes_up_to 1) p11
  pub made_up_counts : (m : ℕ) → (m ≡ 3 → ⊥) → Fails (lists m) b1_list
