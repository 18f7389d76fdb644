-- `put_image`: the records copied to the front, then the trailer after them.
use Rattle.std.proofs.Common.{ℕ, List, ◌≡◌, ◌∙◌, ap, ◌++◌, ◌+◌, ◌*◌, ◌≤◌, length, take, drop, append_assoc, arith}
use lib.Seq.{take_at, drop_at, length-take-le, drop-drop}
use borrow.Rule.Slice.PartMut.{put_mid}
use Rattle.board.specs.Layout.{functions_max, record_size}
use Rattle.image_layout.specs.Image.{image_record, trailer_size}
use Rattle.image_layout.proofs.Lists.{sum_whole}
use Rattle.image_writer.proofs.write.put_image.Goals as goal

-- the trailer put after the records, at the front of an output
put_after : (n k : ℕ) (records out trailer : List ℕ) → n ≤ length records → k ≡ trailer_size
    → put_mid n k (take n records ++ drop n out) trailer ≡ (take n records ++ trailer) ++ drop (n + trailer_size) out
put_after n k records out trailer h size =
    let m = length-take-le n records h in
    let t = take_at (take n records) (drop n out) n m in
    let d = drop_at (take n records) (drop n out) n m in
    rw (t, d, size, append_assoc) (ap (λ (x : List ℕ). take n records ++ (trailer ++ x)) (drop-drop trailer_size n out))

pub returns : goal.returns
returns c =
    let n = record_size * c.args.count in
    let r = c.args.records.now in
    let long : length (take n r) ≡ n = length-take-le n r (omega arith) in
    let few : length (take n r) ≤ functions_max * image_record = omega arith in
    rw (c.copy_from_slice.ensures.after, c.copy_from_slice-2.ensures.after, long)
    (put_after n _ r c.args.out.now _ (omega arith) (omega arith)
    ∙ rw (c.trailer.ensures, c.sum_of.ensures, sum_whole (take n r) few))
