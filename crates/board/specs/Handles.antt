-- Handles: document 01, "The modelled board".
use Rattle.std.specs.Prelude.{ℕ, ◌+◌, ◌-◌, ◌%◌, ◌^◌, min, Bool, ◌&&◌, List, [], ◌∷◌, nat_le, slice_index}
use Rattle.board.specs.Layout.{functions_max}

-- the header of a board with so many functions: the count, and numbers that have no meaning yet
abbrev pub header_of : ℕ → List ℕ
header_of count = count ∷ 0 ∷ 0 ∷ 0 ∷ []

-- a count above 16 is read as 16
abbrev pub function_count : List ℕ → ℕ
function_count header = min (slice_index header 0) functions_max

-- the handle of the function at place i is i + 1; every other number is a bad handle
abbrev pub is_handle : List ℕ → ℕ → Bool
is_handle header handle = nat_le 1 handle && nat_le handle (function_count header)

-- the place without a test, for data calls: one below, modulo 2^32; so 2^32 - 1 for 0, which is no
-- handle
abbrev pub place_of_handle : ℕ → ℕ
place_of_handle handle = (handle + (2 ^ 32 - 1)) % 2 ^ 32
