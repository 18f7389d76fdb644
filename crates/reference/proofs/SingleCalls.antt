-- The laws of single calls.
use Prim.Native.Nat.{ℕ}
use mathlib.Core.Bool.{true, false, false≢true}
use mathlib.Core.List.{List, [], ◌∷◌}
use mathlib.Core.Path.{◌≡◌, refl, sym, ap, ◌∙◌}
use lib.Dec.{ltb}
use lib.ListN.{length, get_or}
use Rattle.board.specs.Parts.{Parts}
use Rattle.board.specs.Layout.{windows_max}
use Rattle.board.specs.Spaces.{space_number}
use Rattle.numbers.specs.Numbers.{bytes}
use Rattle.data_window.specs.Find.{refusal_of}
use Rattle.board.specs.Statuses.{refusal_number}
use Rattle.data_window.specs.declared.refusal.DataRefusal.{DataRefusal}
use Rattle.data_window.specs.declared.refusal.DataRefusal.TheVariants.{UnknownEdition, BadHandle, ShortCells, NotAligned, Nothing, Contested, WidthMissing, PastBuffer}
use Rattle.data_access.proofs.Meaning.{data_read_back, other_reads_kept}
use Rattle.image_refusals.specs.Refusals.{accepted}
use Rattle.reset.specs.Reset.{reset, restarted}
use Rattle.load.specs.Load.{load}
use Rattle.load.proofs.Trip.{round_trip}
use Rattle.call.specs.declared.call.Call.{Call}
use Rattle.call.specs.declared.call.Access.TheVariants.{Read, FastRead, Write}
use Rattle.call.specs.declared.call.Call.TheVariants.{Load, Reset, WriteImage, Config, Data, GetResource, HookInterrupt, UnhookInterrupt, SetCardUsed, Ask}
use Rattle.call.specs.Answers.{refuses, of_read, of_fast_read}
use Rattle.reference.specs.State.{step}
use Rattle.reference.specs.Run.{Request, parts_after, step_on}
use Rattle.reference.specs.SingleCalls.{FastIsPlain, ReadAfterWrite, OtherReads, cells_of_access, is_load, NoLoad, RecordsKept, CallLaws}
use Rattle.reference.proofs.Tests.{if_either, if_at}
use Rattle.reference.proofs.Verdicts.{refuses_image, stated, if_verdict}

data_refuses : (r : DataRefusal) → refuses (refusal_number (refusal_of r)) ≡ true
data_refuses UnknownEdition = refl
data_refuses BadHandle = refl
data_refuses ShortCells = refl
data_refuses NotAligned = refl
data_refuses Nothing = refl
data_refuses Contested = refl
data_refuses WidthMissing = refl
data_refuses PastBuffer = refl

fast_is_plain_lem : FastIsPlain
unfolding step
fast_is_plain_lem p space width handle address own =
    if_at (cells_of_access p space width handle address)
    (λ c e. rw e (record { refused = refl; values = λ f. refl }))
    (λ r e. rw (e, data_refuses r) (record { refused = refl; values = λ f. absurd (false≢true (sym f)) }))

read_after_write_lem : ReadAfterWrite
unfolding step
read_after_write_lem p space width handle address value own mine =
    if_at (cells_of_access p space width handle address)
    (λ c e f.
    ap of_read (data_read_back (bytes width) p.header p.records p.windows p.cell_offsets p.cells (space_number space) handle address value (rw e)))
    (λ r e. rw (e, data_refuses r) (λ f. absurd (false≢true (sym f))))

other_reads_lem : OtherReads
unfolding step
other_reads_lem p space space' width width' handle handle' address address' value Read own mine w apart =
    ap of_read
    (other_reads_kept p.header p.records p.windows p.cell_offsets p.cells
    (bytes width) (space_number space) handle address value (bytes width') (space_number space') handle' address' apart).plain
other_reads_lem p space space' width width' handle handle' address address' value FastRead own mine w apart =
    ap of_fast_read
    (other_reads_kept p.header p.records p.windows p.cell_offsets p.cells
    (bytes width) (space_number space) handle address value (bytes width') (space_number space') handle' address' apart).fast
other_reads_lem p space space' width width' handle handle' address address' value (Write v) own mine w apart = absurd (false≢true (sym w))

-- count and records stay with every call but a load
record Loaded (p q : Parts) : Type 0 where
  header : q.header ≡ p.header
  records : q.records ≡ p.records

reset_stays : (p : Parts) (own : List ℕ) → Loaded p (step p Reset own).parts
unfolding step reset restarted
reset_stays p own =
    if_either (ltb (length p.cells) (get_or p.cell_offsets windows_max 0))
    (λ e. rw e (record { header = refl; records = refl }))
    (λ e. rw e (record { header = refl; records = refl }))

call_stays : (p : Parts) (c : Call) (own : List ℕ) → is_load c ≡ false → Loaded p (step p c own).parts
unfolding step
call_stays p Load own n = absurd (false≢true (sym n))
call_stays p Reset own n = reset_stays p own
call_stays p WriteImage own n = record { header = refl; records = refl }
call_stays p (Config width handle register access) own n = record { header = refl; records = refl }
call_stays p (Data space width handle address access) own n = record { header = refl; records = refl }
call_stays p (GetResource handle) own n = record { header = refl; records = refl }
call_stays p (HookInterrupt handle handler parameter) own n = record { header = refl; records = refl }
call_stays p (UnhookInterrupt handle) own n = record { header = refl; records = refl }
call_stays p (SetCardUsed handle status call_back) own n = record { header = refl; records = refl }
call_stays p (Ask query) own n = record { header = refl; records = refl }

run_stays : (p : Parts) (cs : List Request) → NoLoad cs → Loaded p (parts_after p cs)
unfolding parts_after
run_stays p [] n = record { header = refl; records = refl }
run_stays p (c ∷ cs) n =
    let s = call_stays p c.call c.own n.0 in
    let t = run_stays (step_on p c).parts cs n.1 in
    record { header = t.header ∙ s.header; records = t.records ∙ s.records }

-- a load that is not refused has the verdict of acceptance
not_refused_load : (p : Parts) (image : List ℕ) → (step p Load image).answer.refused ≡ false → (load p image).verdict ≡ accepted
unfolding step load
not_refused_load p image =
    if_verdict (stated image (length p.cells))
    (λ e. rw e (λ f. refl))
    (λ i e. rw e (λ f. absurd (false≢true (sym f))))
    (λ r a z e. rw (e, refuses_image r) (λ f. absurd (false≢true (sym f))))

records_kept_lem : RecordsKept
unfolding step
records_kept_lem p image out cs a n h =
    let q = parts_after (load p image).parts cs in
    let s = run_stays (load p image).parts cs n in
    let t = round_trip p image out (not_refused_load p image a) h in
    rw (s.header, s.records)
    (record {
      accepted = rw t.verdict refl;
      loads = λ r. record { answer = rw (t.loads r); parts = rw (t.loads r) };
    })

pub call_laws : CallLaws
call_laws = record { fast_is_plain = fast_is_plain_lem; read_after_write = read_after_write_lem; other_reads = other_reads_lem; records_kept = records_kept_lem }
