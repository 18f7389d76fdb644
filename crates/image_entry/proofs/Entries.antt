-- A law of an entry's length exponent.
use Prim.Native.Nat.{◌≤◌}
use mathlib.Core.Bool.{true, ◌&&◌, ◌||◌}
use mathlib.Core.Path.{◌≡◌}
use lib.Dec.{leb}
use borrow.Author.Tests.{leb-true}
use Rattle.numbers.proofs.Tests.{both_true}
use Rattle.image_entry.specs.declared.entry.Entry.{Entry}
use Rattle.image_entry.specs.Entry.{is_io, exponent_ok, form_ok}

-- an exponent that passes the tests is at most 16
pub form_exponent : (e : Entry) → form_ok e ≡ true → e.exponent ≤ 16
form_exponent e h =
    let k = e.exponent in
    let exponent = (both_true (exponent_ok k (is_io e.value)) _ h).0 in
    leb-true k 16 (both_true (leb 4 k || (is_io e.value && leb 2 k)) (leb k 16) exponent).1
