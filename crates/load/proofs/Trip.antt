-- A loaded board is written: the image loads as the first one does, and is the first one where that
-- has no notes. Beside its verdict a load takes only the count and the records from an image
-- (`made`), so it is enough that the image written says the same of itself (`Says`).
use Prim.Native.Nat.{ℕ, ◌+◌, ◌*◌, ◌-◌, ◌^◌, ◌<◌, ◌≤◌}
use native.Mathlib.Omega.{arith}
use native.Mathlib.Nat.{mod-eq_of_lt}
use mathlib.Core.Bool.{Bool, true, false, cond}
use mathlib.Core.Path.{◌≡◌, refl, sym, ◌∙◌, ap}
use mathlib.Core.List.{List, [], ◌++◌, append-nil, append_assoc}
use lib.ListN.{length, take, drop, length-append, drop_of_length-le, take-append-drop}
use lib.Seq.{take_at, drop-drop}
use borrow.Author.Tests.{ne_eqb, le-ltb}
use Rattle.numbers.specs.Numbers.{byte_at, big_bytes, big}
use Rattle.board.specs.Layout.{functions_max, record_size, exponent}
use Rattle.board.specs.Parts.{Parts}
use Rattle.board.specs.Handles.{header_of, function_count}
use Rattle.numbers.proofs.Numbers.{big_below, big_bytes_lem, bytes_big}
use Rattle.numbers.proofs.Tables.{table_length}
use Rattle.cell_layout.specs.Cells.{total, offsets_of}
use Rattle.image_layout.specs.Image.{image_record, image_size, back, distance_of, count_of, edition_of, sum_of, records_of, sum, trailer}
use Rattle.image_refusals.specs.Refusals.{Verdict, accepted, is_accepted}
use Rattle.image_refusals.specs.Steps.{cells_verdict}
use Rattle.image_check.specs.Check.{facts_of, checked}
use Rattle.reset.specs.Reset.{restarted}
use Rattle.load.specs.Load.{LoadOutcome, load_outcome, load, padded, installed}
use Rattle.image_writer.specs.Write.{WriterOutcome, write_image, writer_outcome}
use Rattle.load.specs.Meaning.{rewritten, RoundTrip, WrittenBack, ImageAlone}
use Rattle.image_writer.proofs.Lists.{trailer_length}
use Rattle.image_check.proofs.Accepted.{Fine, Accepted, accepted_image, accepted_elsewhere, records_length}

-- what an image says of itself: its trailer's numbers, and its records
record Says (image r : List ℕ) (n s : ℕ) : Type 0 where
  pub size : length image ≡ image_size n
  pub distance : distance_of image ≡ image_size n
  pub count : count_of image ≡ n
  pub edition : edition_of image ≡ 1
  pub said : sum_of image ≡ s
  pub records : records_of image ≡ r

bytes_length : (w v : ℕ) (before : List ℕ) → length (before ++ big_bytes w v) ≡ length before + w
bytes_length w v before = length-append before (big_bytes w v) ∙ rw table_length

-- a number that is written before the end is read there
read_back : (w v d : ℕ) (image before after : List ℕ) → image ≡ before ++ (big_bytes w v ++ after) → length image - d ≡ length before → v < 256 ^ w
    → back w image d ≡ v
read_back w v d image before after e at small =
    ap (big w (byte_at image)) at
    ∙ ap (λ (l : List ℕ). big w (byte_at l) (length before)) e
    ∙ big_bytes_lem w v before after
    ∙ mod-eq_of_lt small

-- the records of an image that has just these and its trailer
only_records : (n : ℕ) (image r t : List ℕ) → image ≡ r ++ t → length image ≡ image_size n → length r ≡ image_record * n → count_of image ≡ n
    → records_of image ≡ r
only_records n image r t e size long count =
    let z : length image - image_size n ≡ 0 = omega arith in
    ap (λ (c : ℕ). take (image_record * c) (drop (length image - image_size c) image)) count
    ∙ ap (λ (d : ℕ). take (image_record * n) (drop d image)) z
    ∙ ap (take (image_record * n)) e
    ∙ take_at r t (image_record * n) long

-- an image of n records and a trailer says what was written
says : (n s : ℕ) (r : List ℕ) → length r ≡ image_record * n → n ≤ functions_max → s < 256 ^ 4 → Says (r ++ trailer n s) r n s
says n s r long few small =
    let a = big_bytes 4 (image_size n) in
    let b = big_bytes 2 n in
    let c = big_bytes 2 1 in
    let d = big_bytes 4 s in
    let e₁ : r ++ trailer n s ≡ (r ++ a) ++ (b ++ (c ++ d)) = sym (append_assoc r a (b ++ (c ++ d))) in
    let e₂ : r ++ trailer n s ≡ ((r ++ a) ++ b) ++ (c ++ d) = e₁ ∙ sym (append_assoc (r ++ a) b (c ++ d)) in
    let e₃ : r ++ trailer n s ≡ (((r ++ a) ++ b) ++ c) ++ (d ++ []) = e₂ ∙ sym (append_assoc ((r ++ a) ++ b) c d) ∙ ap (λ (l : List ℕ). (((r ++ a) ++ b) ++ c) ++ l) (sym (append-nil d)) in
    let l₁ : length (r ++ a) ≡ length r + 4 = bytes_length 4 (image_size n) r in
    let l₂ : length ((r ++ a) ++ b) ≡ length (r ++ a) + 2 = bytes_length 2 n (r ++ a) in
    let l₃ : length (((r ++ a) ++ b) ++ c) ≡ length ((r ++ a) ++ b) + 2 = bytes_length 2 1 ((r ++ a) ++ b) in
    let size : length (r ++ trailer n s) ≡ image_size n = length-append r (trailer n s) ∙ rw (long, trailer_length n s) in
    let count : count_of (r ++ trailer n s) ≡ n = read_back 2 n 8 (r ++ trailer n s) (r ++ a) (c ++ d) e₁ (omega arith) (omega arith) in
    record {
      size = size;
      distance = read_back 4 (image_size n) 12 (r ++ trailer n s) r (b ++ (c ++ d)) refl (omega arith) (omega arith);
      count = count;
      edition = read_back 2 1 6 (r ++ trailer n s) ((r ++ a) ++ b) d e₂ (omega arith) (omega arith);
      said = read_back 4 s 4 (r ++ trailer n s) (((r ++ a) ++ b) ++ c) [] e₃ (omega arith) small;
      records = only_records n (r ++ trailer n s) r (trailer n s) refl size long count;
    }

-- an image is fine if what it says is what a fine image says, its length apart
fine_again : (image other : List ℕ) (room : ℕ) → Fine (facts_of image) room → Says other (records_of image) (count_of image) (sum (records_of image))
    → Fine (facts_of other) room
fine_again image other room k w =
    record {
      long = omega (arith, w.size);
      edition = w.edition;
      some = rw w.count k.some;
      few = rw w.count k.few;
      distance = w.distance ∙ ap image_size (sym w.count);
      whole = rw (w.count, w.size) (omega arith);
      sum = ap sum w.records ∙ sym w.said;
      rules = rw (w.records, w.count) k.rules;
      total = rw w.records k.total;
      fits = rw w.records k.fits;
    }

accepted_again : (image other : List ℕ) (room : ℕ) → Accepted image room → Says other (records_of image) (count_of image) (sum (records_of image))
    → Accepted other room
accepted_again image other room k w =
    record { short = omega (arith, w.size, k.fine.few); fine = fine_again image other room k.fine w }

-- a load as a function of its verdict, and of the count and the records of its image
made : Parts → Verdict → ℕ → List ℕ → LoadOutcome
made q v n r =
    cond (is_accepted v)
    (load_outcome v (restarted (header_of n) (padded r) (offsets_of (exponent (padded r))) q.cells)) (load_outcome v q)

load_made : (q : Parts) (image : List ℕ) → load q image ≡ made q (checked image (length q.cells)) (count_of image) (records_of image)
unfolding load made
load_made q image = refl

-- two images with the same count and records load alike if one number of cells is enough for both
loads_alike : (q : Parts) (image other : List ℕ) (room : ℕ) → Accepted image room → Accepted other room → count_of other ≡ count_of image
    → records_of other ≡ records_of image → load q other ≡ load q image
loads_alike q image other room a b count records =
    let r = length q.cells in
    let v : checked other r ≡ checked image r =
    accepted_elsewhere other room b r
    ∙ ap (λ (l : List ℕ). cells_verdict (total (exponent l)) r) records
    ∙ sym (accepted_elsewhere image room a r) in
    load_made q other ∙ rw (v, records, count) (sym (load_made q image))

-- both ways a load hands back the verdict of the check
load_verdict : (q : Parts) (image : List ℕ) → (load q image).verdict ≡ checked image (length q.cells)
unfolding load
load_verdict q image = both (is_accepted (checked image (length q.cells))) (checked image (length q.cells)) (installed image q.cells) q
  where
    both : (t : Bool) (v : Verdict) (a b : Parts) → (cond t (load_outcome v a) (load_outcome v b)).verdict ≡ v
    both true v a b = refl
    both false v a b = refl

load_accepted : (p : Parts) (image : List ℕ) → (load p image).verdict ≡ accepted → is_accepted (checked image (length p.cells)) ≡ true
load_accepted p image e = ap is_accepted (sym (load_verdict p image) ∙ e)

load_whole : (p : Parts) (image : List ℕ) → (load p image).verdict ≡ accepted → load p image ≡ load_outcome accepted (installed image p.cells)
unfolding load
load_whole p image e =
    rw (load_accepted p image e, sym (load_verdict p image) ∙ e)

load_parts : (p : Parts) (image : List ℕ) → (load p image).verdict ≡ accepted → (load p image).parts ≡ installed image p.cells
load_parts p image e = ap (λ (w : LoadOutcome). w.parts) (load_whole p image e)

-- THEOREM: what else stood in the lent parts plays no role
pub image_alone : ImageAlone
image_alone p q image c e =
    let v : (load q image).verdict ≡ accepted = load_verdict q image ∙ rw (← c) (sym (load_verdict p image) ∙ e) in
    load_whole q image v ∙ rw (← c) (sym (load_whole p image e))

installed_header : (image cells : List ℕ) → (installed image cells).header ≡ header_of (count_of image)
unfolding restarted
installed_header image cells = refl

installed_records : (image cells : List ℕ) → (installed image cells).records ≡ padded (records_of image)
unfolding restarted
installed_records image cells = refl

-- the writer's answer of n loaded records, where the output has the room
writes : (n : ℕ) (r out : List ℕ) → 0 < n → n ≤ functions_max → length r ≡ image_record * n → image_size n ≤ length out
    → write_image (header_of n) (padded r) out ≡ writer_outcome accepted ((r ++ trailer n (sum r)) ++ drop (image_size n) out)
unfolding write_image
writes n r out some few long room =
    let c : function_count (header_of n) ≡ n = omega arith in
    let t : take (record_size * n) (padded r) ≡ r = take_at r _ (record_size * n) long in
    rw (c, le-ltb (length out) (image_size n) room, ne_eqb n 0 (omega arith), t)

-- an accepted image, loaded and written
again : List ℕ → List ℕ
again image = records_of image ++ trailer (count_of image) (sum (records_of image))

rewritten_is : (p : Parts) (image out : List ℕ) → (load p image).verdict ≡ accepted → image_size (count_of image) ≤ length out
    → rewritten p image out ≡ writer_outcome accepted (again image ++ drop (image_size (count_of image)) out)
unfolding again
rewritten_is p image out e room =
    let k = accepted_image image (length p.cells) (load_accepted p image e) in
    rw (load_parts p image e, installed_header image p.cells, installed_records image p.cells)
    (writes (count_of image) (records_of image) out k.fine.some k.fine.few (records_length image (length p.cells) k) room)

again_says : (image : List ℕ) (room : ℕ) → Accepted image room → Says (again image) (records_of image) (count_of image) (sum (records_of image))
unfolding again
again_says image room k =
    says (count_of image) (sum (records_of image)) (records_of image) (records_length image room k) k.fine.few
    (rw k.fine.sum (big_below 4 (byte_at image) (length image - 4)))

pub round_trip : RoundTrip
round_trip p image out e room =
    let n = image_size (count_of image) in
    let w = rewritten_is p image out e room in
    let cells = length p.cells in
    let k = accepted_image image cells (load_accepted p image e) in
    let s = again_says image cells k in
    record {
      verdict = ap (λ (x : WriterOutcome). x.verdict) w;
      loads = λ q. ap (λ (x : WriterOutcome). load q (take n x.out)) w
          ∙ ap (load q) (take_at (again image) (drop n out) n s.size)
          ∙ loads_alike q image (again image) cells k (accepted_again image (again image) cells k s) s.count s.records;
    }

-- the bytes of a number in a list, with what follows it
bytes_then : (w d at : ℕ) (l : List ℕ) → ((i : ℕ) → byte_at l i < 256) → at + w ≤ length l → length l - d ≡ at
    → big_bytes w (back w l d) ++ drop (at + w) l ≡ drop at l
bytes_then w d at l small h e =
    rw (e, bytes_big w l at small h, ← drop-drop w at l) (take-append-drop w (drop at l))

-- the trailer as four numbers
four : ℕ → ℕ → ℕ → ℕ → List ℕ
four distance count edition sum = big_bytes 4 distance ++ (big_bytes 2 count ++ (big_bytes 2 edition ++ big_bytes 4 sum))

-- the last twelve bytes of a list are the four numbers that are read there
last_twelve : (at : ℕ) (l : List ℕ) → ((i : ℕ) → byte_at l i < 256) → length l ≡ at + 12
    → four (distance_of l) (count_of l) (edition_of l) (sum_of l) ≡ drop at l
unfolding four
last_twelve at l small h =
    let z : drop (at + 4 + 2 + 2 + 4) l ≡ [] = drop_of_length-le l {i = at + 4 + 2 + 2 + 4} (omega arith) in
    let d : big_bytes 4 (sum_of l) ≡ drop (at + 4 + 2 + 2) l =
    sym (append-nil (big_bytes 4 (sum_of l)))
    ∙ ap (λ (x : List ℕ). big_bytes 4 (sum_of l) ++ x) (sym z)
    ∙ bytes_then 4 4 (at + 4 + 2 + 2) l small (omega arith) (omega arith) in
    ap (λ (x : List ℕ). big_bytes 4 (distance_of l) ++ (big_bytes 2 (count_of l) ++ (big_bytes 2 (edition_of l) ++ x))) d
    ∙ ap (λ (x : List ℕ). big_bytes 4 (distance_of l) ++ (big_bytes 2 (count_of l) ++ x)) (bytes_then 2 6 (at + 4 + 2) l small (omega arith) (omega arith))
    ∙ ap (λ (x : List ℕ). big_bytes 4 (distance_of l) ++ x) (bytes_then 2 8 (at + 4) l small (omega arith) (omega arith))
    ∙ bytes_then 4 12 at l small (omega arith) (omega arith)

-- the trailer that is written is the one that was read
same_trailer : (image : List ℕ) (room : ℕ) → Accepted image room
    → trailer (count_of image) (sum (records_of image)) ≡ four (distance_of image) (count_of image) (edition_of image) (sum_of image)
unfolding four
same_trailer image room k =
    let n = count_of image in
    ap (λ (d : ℕ). four d n 1 (sum (records_of image))) (sym k.fine.distance)
    ∙ ap (λ (e : ℕ). four (distance_of image) n e (sum (records_of image))) (sym k.fine.edition)
    ∙ ap (four (distance_of image) n (edition_of image)) k.fine.sum

again_same : (image : List ℕ) (room : ℕ) → Accepted image room → length image ≡ image_size (count_of image) → ((i : ℕ) → byte_at image i < 256)
    → again image ≡ image
unfolding again
again_same image room k size small =
    let n = count_of image in
    let z : length image - image_size n ≡ 0 = omega arith in
    let front : records_of image ≡ take (image_record * n) image = ap (λ (d : ℕ). take (image_record * n) (drop d image)) z in
    let rest = same_trailer image room k ∙ last_twelve (image_record * n) image small size in
    ap (λ (l : List ℕ). l ++ trailer n (sum (records_of image))) front
    ∙ ap (λ (l : List ℕ). take (image_record * n) image ++ l) rest
    ∙ take-append-drop (image_record * n) image

pub written_back : WrittenBack
written_back p image out e size small room =
    let k = accepted_image image (length p.cells) (load_accepted p image e) in
    ap (λ (x : WriterOutcome). x.out) (rewritten_is p image out e (omega (arith, size, room)))
    ∙ ap (λ (l : List ℕ). l ++ drop (image_size (count_of image)) out) (again_same image (length p.cells) k size small)
    ∙ ap (λ (n : ℕ). image ++ drop n out) (sym size)
