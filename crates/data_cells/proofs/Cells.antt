-- What a write leaves in the cells: the same read gives the value back, and no other cell changes.
use Prim.Native.Nat.{ℕ, ◌+◌, ◌%◌, ◌^◌, ◌≤◌}
use native.Mathlib.Nat.{mod-eq_of_lt}
use native.Mathlib.Omega.{arith}
use mathlib.Core.Bool.{Bool, true, false, cond}
use mathlib.Core.List.{List, append_assoc}
use mathlib.Core.Path.{◌≡◌, refl, ◌∙◌, ap}
use lib.Dec.{eqb}
use lib.ListN.{length, take, drop}
use lib.Seq.{sets, length-sets, sets-eq, length-take-le}
use Rattle.numbers.specs.Numbers.{byte_at, big, big_bytes, reversed}
use Rattle.numbers.proofs.Numbers.{reversed_below, reversed_back, big_bytes_lem}
use Rattle.numbers.proofs.Stores.{sets_other}
use Rattle.numbers.proofs.Tables.{table_length}
use Rattle.data_order.specs.Orders.{ordered}
use Rattle.data_cells.specs.Meaning.{ReadBack, OnlyItsCells}

-- the bytes of a value, stored where there is room, make the value modulo 256 ^ w
stored_value : (w at value : ℕ) (cells : List ℕ) → at + w ≤ length cells → big w (byte_at (sets cells at (big_bytes w value))) at ≡ value % 256 ^ w
stored_value w at value cells h =
    let v : List ℕ = big_bytes w value in
    let fits : at + length v ≤ length cells = rw table_length h in
    let front : length (take at cells) ≡ at = length-take-le at cells (omega arith) in
    let after : List ℕ = drop (at + length v) cells in
    rw (sets-eq v cells at fits, append_assoc (take at cells) v after) (rw front at (big_bytes_lem w value (take at cells) after))

-- what is taken for the cells comes back from them
ordered_back : (order w value : ℕ) → ordered order w (ordered order w value % 256 ^ w) ≡ value % 256 ^ w
ordered_back order w value = by (eqb order 2)
  where
    by : (b : Bool) → cond b (reversed w (cond b (reversed w value) value % 256 ^ w)) (cond b (reversed w value) value % 256 ^ w) ≡ value % 256 ^ w
    by true = rw (mod-eq_of_lt (reversed_below w value)) (reversed_back w value)
    by false = refl

-- THEOREM: a read after a write of the same width at the same cells gives the value written
pub read_back : ReadBack
read_back order w at value cells h = ap (ordered order w) (stored_value w at (ordered order w value) cells h) ∙ ordered_back order w value

-- THEOREM: a write changes only the cells of its width
pub only_its_cells : OnlyItsCells
only_its_cells order w at value cells =
    let v : List ℕ = big_bytes w (ordered order w value) in
    record { room = length-sets cells at v; same = λ j h. sets_other cells at v j (rw table_length h) }
