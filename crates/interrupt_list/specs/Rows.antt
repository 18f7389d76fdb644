-- Rows with literal numbers of document 01, "Chains and marks" and "Numbers handed back": what the
-- listing of a line gives, and when it is refused.
use Rattle.std.specs.Prelude.{ℕ, List, [], ◌∷◌, map, ◌≡◌, ℤ, pos, neg_ℤ, Result, Ok, Err}
use Rattle.board.specs.Statuses.{refusal_number}
use Rattle.board.specs.declared.status.CallRefusal.{CallRefusal}
use Rattle.interrupt_array.specs.declared.hooks.Hook.{Hook}
use Rattle.interrupt_array.specs.Hooks.{hook}
use Rattle.interrupt_list.specs.Listing.{chain_listing, chain_number, chain_values}

-- a chain of two hooks, and lines at both sides of the last one
abbrev chain : List Hook
chain = hook 2 0x2000 7 ∷ hook 1 0x1000 8 ∷ []

abbrev some_lines : List ℕ
some_lines = 0 ∷ 15 ∷ 16 ∷ 255 ∷ 0xFFFFFFFF ∷ []

-- an answer with the number of a refusal in place of its name
abbrev numbered : Result Hook CallRefusal → Result Hook ℤ
numbered (Ok h) = Ok h
numbered (Err refusal) = Err (refusal_number refusal)

pub record InterruptListRows : Type 0 where
  -- handle, handler and parameter at a place, from 0; past the end -4
  pub index : map (λ index. numbered (chain_listing chain 5 index)) (0 ∷ 1 ∷ 2 ∷ 0xFFFFFFFF ∷ [])
      ≡ Ok (hook 2 0x2000 7) ∷ Ok (hook 1 0x1000 8) ∷ Err (neg_ℤ (pos 4)) ∷ Err (neg_ℤ (pos 4)) ∷ []
  -- the order of checks: -8 line above 15; -4
  pub lines : map (λ line. numbered (chain_listing chain line 0)) some_lines
      ≡ Ok (hook 2 0x2000 7)
      ∷ Ok (hook 2 0x2000 7)
      ∷ Err (neg_ℤ (pos 8))
      ∷ Err (neg_ℤ (pos 8))
      ∷ Err (neg_ℤ (pos 8))
      ∷ []
  pub empty_lines : map (λ line. numbered (chain_listing [] line 0)) some_lines
      ≡ Err (neg_ℤ (pos 4))
      ∷ Err (neg_ℤ (pos 4))
      ∷ Err (neg_ℤ (pos 8))
      ∷ Err (neg_ℤ (pos 8))
      ∷ Err (neg_ℤ (pos 8))
      ∷ []
  -- the same by number and values, which are zeros when refused
  pub numbers : map (chain_number chain 5) (0 ∷ 1 ∷ 2 ∷ 0xFFFFFFFF ∷ [])
      ≡ pos 0 ∷ pos 0 ∷ neg_ℤ (pos 4) ∷ neg_ℤ (pos 4) ∷ []
  pub line_numbers : map (λ line. chain_number chain line 0) some_lines
      ≡ pos 0 ∷ pos 0 ∷ neg_ℤ (pos 8) ∷ neg_ℤ (pos 8) ∷ neg_ℤ (pos 8) ∷ []
  pub empty_numbers : map (λ line. chain_number [] line 0) some_lines
      ≡ neg_ℤ (pos 4) ∷ neg_ℤ (pos 4) ∷ neg_ℤ (pos 8) ∷ neg_ℤ (pos 8) ∷ neg_ℤ (pos 8) ∷ []
  pub values : map (chain_values chain 15) (0 ∷ 1 ∷ 2 ∷ [])
      ≡ (2 ∷ 0x2000 ∷ 7 ∷ []) ∷ (1 ∷ 0x1000 ∷ 8 ∷ []) ∷ (0 ∷ 0 ∷ 0 ∷ []) ∷ []
  pub line_values : chain_values chain 16 0 ≡ 0 ∷ 0 ∷ 0 ∷ []
