-- For claim 2: the lent parts after a load or a reset are those of the reference machine's fresh
-- board, and both judge an image alike.
use Prim.Native.Nat.{ℕ, ◌+◌, ◌*◌, ◌-◌, ◌/◌, ◌%◌, ◌<◌, ◌≤◌}
use native.Mathlib.Omega.{arith}
use native.Mathlib.Nat.{min-le_left}
use mathlib.Core.Bool.{true}
use mathlib.Core.Path.{◌≡◌, refl, sym, ap}
use mathlib.Core.List.{List, []}
use lib.ListN.{length, drop, replicate, length-take}
use Rattle.numbers.specs.Numbers.{byte_at}
use Rattle.numbers.specs.Tables.{table_from}
use Rattle.board.specs.Handles.{header_of}
use Rattle.board.specs.Layout.{functions_max, bases, windows_max, entries_at, entry_size, registers_each, hook_size, mark_size, exponent}
use Rattle.numbers.proofs.Tables.{table_same}
use Rattle.interrupt_array.specs.Hooks.{last_line, hook_numbers, packed}
use Rattle.card_used.specs.Used.{marks_of}
use Rattle.cell_layout.specs.Cells.{total, cells_before, offsets_of}
use Rattle.image_layout.specs.Image.{image_record, image_size, count_of, records_of, record_at}
use Rattle.image_record.specs.Record.{record_ok}
use Rattle.image_refusals.specs.Refusals.{is_accepted}
use Rattle.image_check.specs.Check.{facts_of, checked}
use Rattle.reset.specs.Reset.{first_register, registers_of, restarted}
use Rattle.load.specs.Load.{padded, installed}
use Rattle.cell_layout.proofs.Ranges.{offset_at_lem, before_same}
use Rattle.image_check.proofs.Accepted.{accepted_image, records_length, records_ruled}
use Rattle.reference.specs.Reference.{record_of, exponent_of, joined, fresh, image_records, image_facts, image_verdict}
use Rattle.reference.specs.Run.{line_by_line, parts_of}
use Rattle.reference.proofs.Records.{Sized, Ruled, split_length, split_sized, split_joined, split_byte, split_record, bad_same}
use Rattle.reference.proofs.Registers.{flat, kept_byte, kept_exponent, list_kept}

-- the exponents of all slots are read alike
pub offsets_same : (k k' : ℕ → ℕ → ℕ) → ((i b : ℕ) → b < bases → k i b ≡ k' i b) → offsets_of k ≡ offsets_of k'
offsets_same k k' e = table_same 0 0 (windows_max + 1) (cells_before k) (cells_before k') (λ j h. before_same k k' (0 + j) (λ i l. e (i / bases) (i % bases) (omega arith)))

-- hooks and marks cleared
pub no_hooks : packed (line_by_line (λ line. []) (last_line + 1)) ≡ replicate (functions_max * hook_size) 0
unfolding line_by_line hook_numbers
no_hooks = refl

pub no_marks : marks_of (λ i. record { status = 0; call_back = 0 }) ≡ replicate (functions_max * mark_size) 0
unfolding table_from
no_marks = refl

module _ (rs : List (List ℕ)) (s : Sized rs) where
  registers_same : registers_of (padded (joined rs)) ≡ flat (first_register (λ i. byte_at (record_of rs i)))
  unfolding registers_of
  registers_same =
      table_same 0 0 (functions_max * registers_each) _ _ (λ j h. kept_byte rs s ((0 + j) / registers_each) ((0 + j) % registers_each) (omega arith))

  -- the parts that a load or a reset leaves
  pub restart_same : (cells : List ℕ) → length rs ≤ functions_max
      → restarted (header_of (length rs)) (padded (joined rs)) (offsets_of (exponent_of rs)) cells ≡ parts_of (fresh rs cells)
  unfolding restarted parts_of
  restart_same cells h =
      rw (registers_same, list_kept rs s (first_register (λ i. byte_at (record_of rs i))) h, offset_at_lem (exponent_of rs) windows_max (omega arith), no_hooks, no_marks)

-- an image's records are no longer than its count says
records_few : (image : List ℕ) → length (records_of image) ≤ image_record * count_of image
records_few image =
    let n = image_record * count_of image in
    let l = drop (length image - image_size (count_of image)) image in
    rw (length-take n l) (min-le_left n (length l))

image_exponent : (image : List ℕ) (i b : ℕ) → b < bases → exponent_of (image_records image) i b ≡ exponent (records_of image) i b
image_exponent image i b h =
    let e : entries_at + entry_size * b + 0 ≡ entries_at + entry_size * b = omega arith in
    rw e (split_byte (count_of image) (records_of image) i (entries_at + entry_size * b) (records_few image) (omega arith))

image_total : (image : List ℕ) → total (exponent_of (image_records image)) ≡ total (exponent (records_of image))
image_total image =
    before_same (exponent_of (image_records image)) (exponent (records_of image)) windows_max
    (λ i h. image_exponent image (i / bases) (i % bases) (omega arith))

facts_same : (image : List ℕ) → image_facts image ≡ facts_of image
facts_same image =
    let n = count_of image in
    rw (
      bad_same (λ i. record_ok (record_of (image_records image) i)) (λ i. record_ok (record_at (records_of image) i)) 0 n (λ j h. ap record_ok (split_record n (records_of image) j (omega arith))),
      image_total image,
    )

-- both judge an image alike
pub verdict_same : (image : List ℕ) (room : ℕ) → checked image room ≡ image_verdict image room
unfolding checked image_verdict
verdict_same image room = rw (facts_same image)

-- the records, one by one, of an image that the reference machine accepts with so many cells lent
pub record Whole (image : List ℕ) (room : ℕ) : Type 0 where
  pub kept : Ruled (image_records image)
  pub bytes : joined (image_records image) ≡ records_of image
  pub fits : total (exponent_of (image_records image)) ≤ room

pub accepted_whole : (image : List ℕ) (room : ℕ) → is_accepted (image_verdict image room) ≡ true → Whole image room
accepted_whole image room e =
    let a = accepted_image image room (rw (verdict_same image room) e) in
    let n = count_of image in
    let l = records_length image room a in
    record {
      kept = record {
        few = rw (split_length n (records_of image)) a.fine.few;
        sized = split_sized n (records_of image) (omega (arith, l));
        ruled = λ i h.
            let k : i < n = rw (split_length n (records_of image)) at h in
            rw (split_record n (records_of image) i k) (records_ruled image room a i k);
        small = rw (image_total image) a.fine.total;
      };
      bytes = split_joined n (records_of image) l;
      fits = rw (image_total image) a.fine.fits;
    }

installed_as : (image cells : List ℕ) (rs : List (List ℕ)) → count_of image ≡ length rs → records_of image ≡ joined rs → Sized rs
    → length rs ≤ functions_max → installed image cells ≡ parts_of (fresh rs cells)
installed_as image cells rs n l s f =
    rw (l, n, offsets_same (exponent (padded (joined rs))) (exponent_of rs) (λ i b h. kept_exponent rs s i b h)) (restart_same rs s cells f)

pub installed_same : (image cells : List ℕ) → Whole image (length cells) → installed image cells ≡ parts_of (fresh (image_records image) cells)
installed_same image cells w =
    installed_as image cells (image_records image) (sym (split_length (count_of image) (records_of image))) (sym w.bytes) w.kept.sized w.kept.few
