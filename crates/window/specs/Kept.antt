-- A kept number: one window of document 01, "Windows", in one number.
use Rattle.std.specs.Prelude.{ℕ, ◌+◌, ◌*◌, ◌/◌, ◌%◌, ◌^◌, Bool, cond, Option, Some, None, List, [], ◌∷◌, eqb}
use Rattle.window.specs.Window.{Window}

-- from the top: space, start (32 bits), handle (5), base register (3), length (17), contested (1),
-- so that the numbers' order is the list's
unfoldable pub pack : Window → ℕ
pack w =
    ((((w.space * 2 ^ 32
    + w.start) * 2 ^ 5
    + w.handle) * 2 ^ 3
    + w.base) * 2 ^ 17
    + w.length) * 2
    + cond w.contested 1 0

-- what a kept number says, by its fields
abbrev pub unpack : ℕ → Window
unpack n =
    record {
      space = n / 2 ^ 58 % 2;
      start = n / 2 ^ 26 % 2 ^ 32;
      length = n / 2 % 2 ^ 17;
      handle = n / 2 ^ 21 % 2 ^ 5;
      base = n / 2 ^ 18 % 2 ^ 3;
      contested = eqb (n % 2) 1;
    }

-- the number of a base register's window, if it has one
abbrev pub code : List Window → Option ℕ
code [] = None
code (w ∷ l) = Some (pack w)

-- where a window begins and ends, with the I/O addresses after the memory addresses
abbrev pub begins : ℕ → ℕ
begins n = n / 2 ^ 26

abbrev pub ends : ℕ → ℕ
ends n = n / 2 ^ 26 + n / 2 % 2 ^ 17

-- a number of length 0 is no window, and ends the kept list
abbrev pub is_end : ℕ → Bool
is_end n = eqb (unpack n).length 0

-- the windows of a kept list: those before its end
unfoldable pub unpacked : List ℕ → List Window
unpacked [] = []
unpacked (n ∷ l) = cond (is_end n) [] (unpack n ∷ unpacked l)
