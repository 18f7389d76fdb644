-- `put_number`: the last bytes of the number's four, stored.
use Rattle.std.proofs.Common.{ℕ, ◌+◌, ◌≤◌, List, length, take, drop, ◌≡◌, ◌∙◌, arith}
use native.Mathlib.Nat.{div-one}
use mathlib.Core.List.{append_assoc}
use borrow.Rule.Slice.PartMut.{put_mid}
use Rattle.std.proofs.lemmas.List.{drop-drop}
use Rattle.std.proofs.lemmas.List.Edits.{sets, sets-eq}
use Rattle.numbers.specs.Numbers.{big_bytes}
use Rattle.numbers.specs.Tables.{table_from}
use Rattle.data_access.proofs.stored.put_number.Goals as goal

-- a part that is written whole
put_sets : (l ys vs : List ℕ) (at n : ℕ) → ys ≡ vs → n ≡ length vs → at + length vs ≤ length l → put_mid at n l ys ≡ sets l at vs
put_sets l ys vs at n e s h =
    rw (e, s, drop-drop (length vs) at l, sets-eq vs l at h, append_assoc (take at l) vs (drop (at + length vs) l))

pub returns-in-Byte : goal.returns-in-Byte
unfolding table_from
returns-in-Byte c = rw (c.in-Byte.is, c.to_be_bytes-b.ensures, div-one)

pub returns-in-Word : goal.returns-in-Word
unfolding table_from
returns-in-Word c =
    let h = rw c.in-Word.is at c.requires in
    let last : c.copy_from_slice.new.self ≡ big_bytes 2 c.args.value = c.copy_from_slice.ensures.after ∙ rw (c.to_be_bytes-b.ensures, div-one) in
    rw c.in-Word.is (put_sets c.args.cells.now c.copy_from_slice.new.self (big_bytes 2 c.args.value) c.args.at _ last (omega arith) h)

pub returns-in-Long : goal.returns-in-Long
unfolding table_from
returns-in-Long c =
    let h = rw c.in-Long.is at c.requires in
    let whole : c.copy_from_slice-in-Long.new.self ≡ big_bytes 4 c.args.value = c.copy_from_slice-in-Long.ensures.after ∙ rw (c.to_be_bytes-b.ensures, div-one) in
    rw c.in-Long.is (put_sets c.args.cells.now c.copy_from_slice-in-Long.new.self (big_bytes 4 c.args.value) c.args.at _ whole (omega arith) h)
