-- Rows with literal numbers of document 01, "Chains and marks" and "Numbers handed back": line and
-- pin of a loaded record, which of them a hook accepts, and the chains that an array holds.
use Rattle.std.specs.Prelude.{ℕ, true, false, List, [], ◌∷◌, ◌++◌, map, ◌≡◌, replicate}
use Rattle.interrupt_array.specs.Hooks.{
  hook,
  hook_at,
  array_of,
  line_of,
  pin_of,
  is_routed,
  chain_of,
  packed,
}

-- a loaded record with a line at 3Ch and a pin at 3Dh, and other bytes beside them
abbrev pub loaded : ℕ → ℕ → List ℕ
loaded line pin = replicate 0x3B 0 ++ (0xEE ∷ line ∷ pin ∷ 0xEE ∷ replicate 481 0)

-- three functions: handles 1 and 3 on line 5, handle 2 on line 15
abbrev records : List ℕ
records = loaded 5 1 ++ (loaded 15 4 ++ loaded 5 2)

-- handle, handler and parameter of three hooks, and zeros
abbrev hooks : List ℕ
hooks =
    3 ∷ 0x3000 ∷ 9 ∷ 1 ∷ 0x1000 ∷ 8 ∷ 2 ∷ 0x2000 ∷ 7
    ∷ replicate 39 0

pub record InterruptArrayRows : Type 0 where
  -- the line is the loaded register 3Ch, the pin the loaded 3Dh
  pub line : map (line_of records) (1 ∷ 2 ∷ 3 ∷ []) ≡ 5 ∷ 15 ∷ 5 ∷ []
  pub pin : map (pin_of records) (1 ∷ 2 ∷ 3 ∷ []) ≡ 1 ∷ 4 ∷ 2 ∷ []
  -- hook: -8 pin 0 or line not 0..15
  pub pins : map (λ pin. is_routed pin 5) (0 ∷ 1 ∷ 2 ∷ 3 ∷ 4 ∷ [])
      ≡ false ∷ true ∷ true ∷ true ∷ true ∷ []
  pub lines : map (is_routed 1) (0 ∷ 14 ∷ 15 ∷ 16 ∷ 255 ∷ [])
      ≡ true ∷ true ∷ true ∷ false ∷ false ∷ []
  -- a hook stores handle, handler and parameter, in one array of 16
  pub entries : map (hook_at hooks) (0 ∷ 1 ∷ 2 ∷ 3 ∷ 15 ∷ [])
      ≡ hook 3 0x3000 9 ∷ hook 1 0x1000 8 ∷ hook 2 0x2000 7 ∷ hook 0 0 0 ∷ hook 0 0 0 ∷ []
  pub array : array_of (hook_at hooks) ≡ hooks
  pub in_a_row : packed (hook 3 0x3000 9 ∷ hook 1 0x1000 8 ∷ hook 2 0x2000 7 ∷ []) ≡ hooks
  -- a function's chain is its line's, in the array's order; an entry of zeros is on none
  pub chains : map (chain_of records hooks) (0 ∷ 4 ∷ 5 ∷ 6 ∷ 15 ∷ [])
      ≡ [] ∷ [] ∷ (hook 3 0x3000 9 ∷ hook 1 0x1000 8 ∷ []) ∷ [] ∷ (hook 2 0x2000 7 ∷ []) ∷ []
