-- Laws of handles: the test of a handle, said as bounds; the place without a test.
use Rattle.std.proofs.Common.{◌≡◌, ℕ, ◌-◌, ◌^◌, ◌<◌, ◌≤◌, min, true, List, get_or, arith, le-leb, leb-true}
use Rattle.board.specs.Handles.{is_handle, place_of_handle}
use Rattle.numbers.proofs.Tests.{both_true}

-- a handle is at least 1, and at most the kept count and 16
pub handle_place : (header : List ℕ) (h : ℕ) → is_handle header h ≡ true → (0 < h) × ((h ≤ get_or header 0 0) × (h ≤ 16))
handle_place header h t =
    let tests = both_true _ _ t in
    let high : h ≤ min (get_or header 0 0) 16 = leb-true _ _ tests.1 in
    (leb-true _ _ tests.0, (omega arith, omega arith))

-- every such number is a handle
pub place_handle : (header : List ℕ) (h : ℕ) → (0 < h) × ((h ≤ get_or header 0 0) × (h ≤ 16)) → is_handle header h ≡ true
place_handle header h p = rw (le-leb 1 h p.0) (le-leb h (min (get_or header 0 0) 16) (omega arith))

-- the place of a number above 0 is one below it
pub place_below : (h : ℕ) → 0 < h → h < 2 ^ 32 → place_of_handle h ≡ h - 1
place_below h low high = omega arith

-- so is that of a handle
pub place_named : (header : List ℕ) (h : ℕ) → is_handle header h ≡ true → place_of_handle h ≡ h - 1
place_named header h t = let p = handle_place header h t in place_below h p.0 (omega (arith, p.1.1))
