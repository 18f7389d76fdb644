-- Lists made of a function's values, and lists with zeros after them.
use Rattle.std.specs.Prelude.{ℕ, zero, suc, ◌-◌, List, [], ◌∷◌, ◌++◌, length, replicate}

-- f i, f (i + 1) .., n of them
unfoldable pub table_from : ℕ → ℕ → (ℕ → ℕ) → List ℕ
table_from i zero f = []
table_from i (suc n) f = f i ∷ table_from (suc i) n f

-- f 0, f 1 .., n of them
abbrev pub table : ℕ → (ℕ → ℕ) → List ℕ
table n f = table_from 0 n f

-- zeros after a list, up to a length
abbrev pub filled_up : ℕ → List ℕ → List ℕ
filled_up n l = l ++ replicate (n - length l) 0
