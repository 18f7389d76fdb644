-- What the byte-order rule means, without the proof: document 01, "Data and byte order".
use Rattle.std.specs.Prelude.{ℕ, ◌+◌, ◌%◌, ◌^◌, ◌<◌, ◌≤◌, ◌≡◌}
use Rattle.numbers.specs.Numbers.{bytes}
use Rattle.numbers.specs.declared.number.Width.{Width}
use Rattle.data_order.specs.Orders.{cell_distance}

-- in every order the cells of an aligned access stay inside its window, whose length is 4 or more
abbrev pub InsideWindow : Type 0
InsideWindow =
    (order : ℕ) (width : Width) (k o : ℕ) → 2 ≤ k → o < 2 ^ k → o % bytes width ≡ 0
    → cell_distance order (bytes width) o + bytes width ≤ 2 ^ k
