-- For claim 2: registers, record bytes and the window list, read from the lent parts, are the
-- reference machine's.
use Prim.Native.Nat.{ℕ, ◌+◌, ◌*◌, ◌-◌, ◌/◌, ◌%◌, ◌<◌, ◌≤◌}
use native.Mathlib.Omega.{arith}
use native.Mathlib.Nat.{min-eq_left}
use mathlib.Core.Bool.{Bool, true, false, ◌&&◌, ◌||◌}
use mathlib.Core.Logic.{⊎_elim}
use mathlib.Core.Path.{◌≡◌, refl, sym, ◌∙◌, ap}
use mathlib.Core.List.{List}
use lib.Dec.{eqb, leb}
use lib.ListN.{length}
use lib.Seq.{ext_get_or}
use borrow.Author.Tests.{eqb-true, eqb-false, leb-true, leb-false, lt-leb}
use Rattle.numbers.specs.Numbers.{byte_at, little, big}
use Rattle.numbers.specs.Tables.{table}
use Rattle.board.specs.Handles.{header_of}
use Rattle.board.specs.Layout.{
  functions_max,
  bases,
  record_size,
  masks_at,
  entries_at,
  entry_size,
  registers_each,
  record_byte,
  mask_byte,
  exponent,
  register_byte,
}
use Rattle.numbers.proofs.Numbers.{little_same, big_same}
use Rattle.numbers.proofs.Tables.{table_length, table_get}
use Rattle.window_list.specs.Windows.{list_of, window_list}
use Rattle.window_list.proofs.Meaning.{list_same}
use Rattle.config_write.specs.Write.{clear_mask_byte, registers_written}
use Rattle.config_write.proofs.Written.{masked_write}
use Rattle.load.specs.Load.{padded}
use Rattle.load.proofs.Lists.{zeros_after}
use Rattle.reference.specs.Reference.{
  Reference,
  record_of,
  exponent_of,
  joined,
  mask_of,
  clear_mask_of,
  registers_after,
}
use Rattle.reference.proofs.Records.{Sized, joined_byte}

-- registers by function and number, one function's after another's
abbrev pub flat : (ℕ → ℕ → ℕ) → List ℕ
flat r = table (functions_max * registers_each) (λ j. r (j / registers_each) (j % registers_each))

pub flat_byte : (r : ℕ → ℕ → ℕ) (i at : ℕ) → i < functions_max → at < registers_each → register_byte (flat r) i at ≡ r i at
flat_byte r i at h a =
    let n = registers_each * i + at in
    let q : (0 + n) / registers_each ≡ i = omega arith in
    let m : (0 + n) % registers_each ≡ at = omega arith in
    table_get 0 (functions_max * registers_each) (λ j. r (j / registers_each) (j % registers_each)) n (omega arith) ∙ rw (q, m)

-- a list with those bytes is that table
flat_is : (r : ℕ → ℕ → ℕ) (l : List ℕ) → length l ≡ functions_max * registers_each
    → ((i at : ℕ) → i < functions_max → at < registers_each → register_byte l i at ≡ r i at) → l ≡ flat r
flat_is r l e same =
    ext_get_or 0 l (flat r) (e ∙ sym (table_length 0 (functions_max * registers_each) _)) (λ j h.
    let i : j / registers_each < functions_max = omega (arith, e) in
    let m : registers_each * (j / registers_each) + j % registers_each ≡ j = omega arith in
    rw m at (same (j / registers_each) (j % registers_each) i (omega arith) ∙ sym (flat_byte r (j / registers_each) (j % registers_each) i (omega arith))))

-- a number of w registers of a function
pub flat_number : (r : ℕ → ℕ → ℕ) (w i register : ℕ) → i < functions_max → register + w ≤ registers_each
    → little w (register_byte (flat r) i) register ≡ little w (r i) register
flat_number r w i register h k =
    little_same w (register_byte (flat r) i) (r i) register register (λ d l. ap (λ b. b % 256) (flat_byte r i (register + d) h (omega arith)))

-- 06h and 07h are the registers from 06h to 07h
status_from_to : (at : ℕ) → (eqb at 0x06 || eqb at 0x07) ≡ (leb 0x06 at && leb at 0x07)
status_from_to at = by _ _ _ refl refl refl
  where
    by : (p q r : Bool) → eqb at 0x06 ≡ p → eqb at 0x07 ≡ q → leb 0x06 at ≡ r
        → (p || q) ≡ (r && leb at 0x07)
    by true q true e f g = let n = eqb-true at 0x06 e in rw n
    by true q false e f g = absurd (omega (arith, eqb-true at 0x06 e, leb-false 0x06 at g))
    by false true true e f g = let n = eqb-true at 0x07 f in rw n
    by false true false e f g = absurd (omega (arith, eqb-true at 0x07 f, leb-false 0x06 at g))
    by false false true e f g =
        let past = leb-true 0x06 at g in
        let other = eqb-false at 0x06 e in
        let another = eqb-false at 0x07 f in
        rw (lt-leb at 0x07 (omega arith))
    by false false false e f g = refl

module _ (rs : List (List ℕ)) (s : Sized rs) where
  -- a byte of the records array
  pub kept_byte : (i at : ℕ) → at < record_size → record_byte (padded (joined rs)) i at ≡ byte_at (record_of rs i) at
  kept_byte i at h =
      zeros_after (joined rs) (functions_max * record_size - length (joined rs)) (record_size * i + at) ∙ joined_byte rs s i at h

  -- a number of 4 bytes there
  pub kept_number : (i at : ℕ) → at + 4 ≤ record_size → big 4 (record_byte (padded (joined rs)) i) at ≡ big 4 (byte_at (record_of rs i)) at
  kept_number i at h =
      big_same 4 (record_byte (padded (joined rs)) i) (byte_at (record_of rs i)) at at (λ d l. ap (λ n. n % 256) (kept_byte i (at + d) (omega arith)))

  pub kept_exponent : (i b : ℕ) → b < bases → exponent (padded (joined rs)) i b ≡ exponent_of rs i b
  kept_exponent i b h =
      let e : entries_at + entry_size * b + 0 ≡ entries_at + entry_size * b = omega arith in
      rw e (kept_byte i (entries_at + entry_size * b) (omega arith))

  -- the masks of a register
  kept_mask : (i at : ℕ) → at < registers_each → mask_byte (padded (joined rs)) i at ≡ mask_of rs i at
  kept_mask i at h = kept_byte i (masks_at + at) (omega arith)

  kept_clear_mask : (i at : ℕ) → at < registers_each
      → clear_mask_byte (padded (joined rs)) i at ≡ clear_mask_of rs i at
  kept_clear_mask i at h = rw (status_from_to at, kept_mask i at h)

  pub list_kept : (r : ℕ → ℕ → ℕ) → length rs ≤ functions_max
      → window_list (header_of (length rs)) (padded (joined rs)) (flat r) ≡ list_of (length rs) (exponent_of rs) r
  list_kept r h =
      rw (min-eq_left h)
      (list_same (length rs) (exponent (padded (joined rs))) (exponent_of rs) (register_byte (flat r)) r
      (λ i b l m. kept_exponent i b m)
      (λ i at l w. flat_byte r i at (omega arith) (⊎_elim (λ e. omega arith) (λ e. omega (arith, e.1)) w)))

-- what a write through the masks leaves
pub written_same : (b : Reference) → Sized b.records → (w i register value : ℕ) → i < functions_max → register + w ≤ registers_each
    → registers_written w (padded (joined b.records)) i register value (flat b.registers)
    ≡ flat (registers_after b w i register value)
written_same b s w i register value h k =
    let size = table_length 0 (functions_max * registers_each) (λ j. b.registers (j / registers_each) (j % registers_each)) in
    let records = padded (joined b.records) in
    let t =
    masked_write w (mask_byte records i) (clear_mask_byte records i) i register value (flat b.registers) k
    (omega (arith, size))
    in
    flat_is (registers_after b w i register value) _ (t.room ∙ size) (λ j at l m.
    t.byte j at m
    ∙ rw (
      kept_clear_mask b.records s i at m,
      kept_mask b.records s i at m,
      flat_byte b.registers i at h m,
      flat_byte b.registers j at l m,
    ))
