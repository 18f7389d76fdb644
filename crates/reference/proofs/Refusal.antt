-- Claim 1: a refused call changes nothing and gives a stated number and the filler.
use Prim.Native.Nat.{ℕ}
use mathlib.Core.Logic.{inl, inr}
use mathlib.Core.Path.{◌≡◌, refl}
use mathlib.Core.List.{List}
use lib.Dec.{ltb, eqb}
use lib.IntN.{ℤ}
use lib.ListN.{length, get_or}
use Rattle.board.specs.Parts.{Parts, with_registers}
use Rattle.board.specs.Layout.{windows_max}
use Rattle.call_edition.specs.Edition.{is_known}
use Rattle.call_edition.specs.declared.edition.InEdition.{InEdition}
use Rattle.numbers.specs.declared.number.Width.{Width}
use Rattle.numbers.specs.Numbers.{bytes}
use Rattle.board.specs.Handles.{function_count, is_handle}
use Rattle.config_read.specs.Target.{target}
use Rattle.board.specs.Statuses.{refusal_number}
use Rattle.board.specs.declared.status.CallRefusal.{CallRefusal}
use Rattle.board.specs.declared.status.CallRefusal.TheVariants.{BadRegisterNumber}
use Rattle.std.specs.Prelude.{Result, Ok, Err}
use Rattle.config_write.specs.Write.{write_config}
use Rattle.data_cells.specs.Cells.{cell_target_of, cell_target}
use Rattle.board.specs.Spaces.{space_number}
use Rattle.data_window.specs.Find.{refusal_of}
use Rattle.data_window.specs.declared.refusal.DataRefusal.{DataRefusal}
use Rattle.data_window.specs.declared.refusal.DataRefusal.TheVariants.{UnknownEdition, BadHandle, ShortCells, NotAligned, Nothing, Contested, WidthMissing, PastBuffer}
use Rattle.board.specs.declared.space.Space.{Space}
use Rattle.data_cells.specs.Cells.{CellTarget}
use Rattle.data_cells.specs.declared.target.Cells.{Cells}
use Rattle.image_layout.specs.Image.{image_size}
use Rattle.reset.specs.Reset.{reset}
use Rattle.load.specs.Load.{load}
use Rattle.image_writer.specs.Write.{write_image}
use Rattle.call.specs.declared.call.Access.TheVariants.{Read, FastRead, Write}
use Rattle.call.specs.declared.call.Call.TheVariants.{Load, Reset, WriteImage, Config, Data, GetResource, HookInterrupt, UnhookInterrupt, SetCardUsed, Ask}
use Rattle.call.specs.Answers.{of_status}
use Rattle.reference.specs.State.{outcome, blanked, step}
use Rattle.reference.specs.Claims.{data_refusals, in_editions, Among, Refusal}
use Rattle.reference.proofs.Tests.{if_either, if_target, if_at}
use Rattle.reference.proofs.Verdicts.{stated, if_verdict}
use Rattle.reference.proofs.Refused.{Kept, not_refused, untouched, kept_resource, kept_hook, kept_unhook, kept_set_used}
use Rattle.reference.proofs.QueryRefused.{in_known, in_unknown, query_stated}

-- what a configuration access of w bytes is for
abbrev target_at : Parts → ℕ → ℕ → ℕ → Result ℕ CallRefusal
target_at p w handle register = target (is_handle p.header handle) w handle register

-- it is for a function, or is refused with one of the two numbers
if_function : {X : Type 0} (p : Parts) (w handle register : ℕ) → ((i : ℕ) → target_at p w handle register ≡ Ok i → X)
    → (target_at p w handle register ≡ Err BadRegisterNumber → X) → (target_at p w handle register ≡ Err CallRefusal.BadHandle → X) → X
if_function {X} p w handle register f r h =
    if_target (λ t. target_at p w handle register ≡ t → X) (function_count p.header) w handle register (λ i l e k. f i) r h refl

-- a write of any w bytes
write_kept : (p : Parts) (own : List ℕ) (width : Width) (w handle register value : ℕ)
    → Kept p (Config width handle register (Write value)) own
    (let o = write_config w p.header p.records p.registers p.windows handle register value in
    outcome (of_status o.status) (with_registers o.registers o.windows p) own)
write_kept p own width w handle register value =
    if_function p w handle register (λ i e. rw e (λ f. not_refused f))
    (λ e. rw e (λ f. untouched (inr (inl refl)) refl))
    (λ e. rw e (λ f. untouched (inl refl) refl))

-- where a data access stands
abbrev place_at : Parts → Space → Width → ℕ → InEdition → CellTarget
place_at p space width handle address =
    cell_target (bytes width) p.header p.records p.windows p.cell_offsets (length p.cells) (space_number space) handle address

-- it is refused with one of the stated numbers
data_stated : (r : DataRefusal) → Among (refusal_number (refusal_of r)) data_refusals
data_stated UnknownEdition = inr (inr (inr (inl refl)))
data_stated BadHandle = inl refl
data_stated ShortCells = inr (inl refl)
data_stated NotAligned = inr (inr (inl refl))
data_stated Nothing = inr (inr (inl refl))
data_stated Contested = inr (inr (inl refl))
data_stated WidthMissing = inr (inr (inr (inl refl)))
data_stated PastBuffer = inr (inl refl)

-- the numbers of a data access in its edition
abbrev numbers : InEdition → List ℤ
numbers address = in_editions address data_refusals data_refusals

-- it stands at cells, or is refused with a number of its edition
if_place : {X : Type 0} (p : Parts) (space : Space) (width : Width) (handle : ℕ) (address : InEdition)
    → ((c : Cells) → place_at p space width handle address ≡ Ok c → X)
    → ((r : DataRefusal) → Among (refusal_number (refusal_of r)) (numbers address) → place_at p space width handle address ≡ Err r → X) → X
unfolding cell_target_of
if_place p space width handle address f g =
    if_either (is_known address)
    (λ k. if_at (place_at p space width handle address) f (λ r. g r (in_known address _ _ _ k (data_stated r) (data_stated r))))
    (λ k. g UnknownEdition (in_unknown address _ _ k) (rw k))

pub refusal : Refusal
unfolding step load reset write_image
refusal p Load own =
    if_verdict (stated own (length p.cells)) (λ e. rw e (λ f. not_refused f))
    (λ i e. rw e (λ f. untouched (inr (inr (inr (inr (inr (inl refl)))))) (inr (refl, refl))))
    (λ r a z e. rw (e, z) (λ f. untouched a (inl refl)))
refusal p Reset own =
    if_either (ltb (length p.cells) (get_or p.cell_offsets windows_max 0))
    (λ e. rw e (λ f. untouched (inl refl) refl)) (λ e. rw e (λ f. not_refused f))
refusal p WriteImage own =
    if_either (ltb (length own) (image_size (function_count p.header)))
    (λ e. rw e (λ f. untouched (inl refl) refl))
    (λ e.
    if_either (eqb (function_count p.header) 0)
    (λ z. rw (e, z) (λ f. untouched (inr (inl refl)) refl))
    (λ z. rw (e, z) (λ f. not_refused f)))
refusal p (Config width handle register Read) own =
    if_function p (bytes width) handle register (λ i e. rw e (λ f. not_refused f))
    (λ e. rw e (λ f. untouched (inr (inl refl)) refl))
    (λ e. rw e (λ f. untouched (inl refl) refl))
refusal p (Config width handle register FastRead) own =
    if_function p (bytes width) handle register (λ i e. rw e (λ f. not_refused f))
    (λ e. rw e (λ f. untouched (inl refl) refl))
    (λ e. rw e (λ f. untouched (inl refl) refl))
refusal p (Config width handle register (Write value)) own = write_kept p own width _ handle register value
refusal p (Data space width handle address Read) own =
    if_place p space width handle address (λ c e. rw e (λ f. not_refused f))
    (λ r n e. rw e (λ f. untouched n refl))
refusal p (Data space width handle address FastRead) own =
    if_place p space width handle address (λ c e. rw e (λ f. not_refused f))
    (λ r n e. rw e (λ f. untouched (inl refl) refl))
refusal p (Data space width handle address (Write value)) own =
    if_place p space width handle address (λ c e. rw e (λ f. not_refused f))
    (λ r n e. rw e (λ f. untouched n refl))
refusal p (GetResource handle) own = kept_resource p own handle
refusal p (HookInterrupt handle handler parameter) own = kept_hook p own handle handler parameter
refusal p (UnhookInterrupt handle) own = kept_unhook p own handle
refusal p (SetCardUsed handle status call_back) own = kept_set_used p own handle status call_back
refusal p (Ask query) own = λ e. let s = query_stated (blanked p) query e in untouched s.0 s.1
