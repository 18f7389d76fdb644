-- Rows with literal numbers of document 01, "Numbers handed back" and "Chains and marks": which
-- hooks and unhooks are refused, and the array and the chains that the others leave.
use Rattle.std.specs.Prelude.{ℕ, true, false, List, [], ◌∷◌, ◌++◌, map, ◌≡◌, ℤ, pos, neg_ℤ, replicate}
use Rattle.board.specs.Statuses.{number_of}
use Rattle.interrupt_array.specs.declared.hooks.Hook.{Hook}
use Rattle.interrupt_array.specs.Hooks.{hook, chain_of}
use Rattle.interrupt_array.specs.Rows.{loaded}
use Rattle.interrupt_hook.specs.Chain.{
  HookOutcome,
  hook_interrupt,
  unhook_interrupt,
}
use Rattle.interrupt_hook.specs.Meaning.{hooking, unhooking, array_after, is_among, without}

-- boards of one function and of four: handles 1 and 2 on line 5, handle 3 on line 3, 4 on line 15
abbrev one : List ℕ
one = 1 ∷ 0 ∷ 0 ∷ 0 ∷ []

abbrev four : List ℕ
four = 4 ∷ 0 ∷ 0 ∷ 0 ∷ []

abbrev records : List ℕ
records = loaded 5 1 ++ (loaded 5 2 ++ (loaded 3 3 ++ loaded 15 4))

-- the array without hooks, and with hooks of some handles
abbrev none : List ℕ
none = replicate 48 0

abbrev has1 : List ℕ
has1 = 1 ∷ 0x1000 ∷ 8 ∷ replicate 45 0

abbrev has2 : List ℕ
has2 = 2 ∷ 0x2000 ∷ 7 ∷ replicate 45 0

abbrev has21 : List ℕ
has21 = 2 ∷ 0x2000 ∷ 7 ∷ 1 ∷ 0x1000 ∷ 8 ∷ replicate 42 0

abbrev has12 : List ℕ
has12 = 1 ∷ 0x1000 ∷ 8 ∷ 2 ∷ 0x2000 ∷ 7 ∷ replicate 42 0

abbrev has324 : List ℕ
has324 = 3 ∷ 0x3000 ∷ 9 ∷ 2 ∷ 0x2000 ∷ 7 ∷ 4 ∷ 0x4000 ∷ 6 ∷ replicate 39 0

abbrev has3214 : List ℕ
has3214 =
    3 ∷ 0x3000 ∷ 9 ∷ 2 ∷ 0x2000 ∷ 7 ∷ 1 ∷ 0x1000 ∷ 8 ∷ 4 ∷ 0x4000 ∷ 6
    ∷ replicate 36 0

-- a chain of hooks of handles 2, 1 and 4
abbrev chain214 : List Hook
chain214 = hook 2 0x2000 7 ∷ hook 1 0x1000 8 ∷ hook 4 0x4000 6 ∷ []

-- what a call leaves, by number: 0 and an array, or -n and an array
abbrev numbered : HookOutcome → ℤ × List ℕ
numbered t = (number_of t.status, t.hooks)

abbrev leaves : List ℕ → ℤ × List ℕ
leaves hooks = (pos 0, hooks)

abbrev refuses : ℕ → List ℕ → ℤ × List ℕ
refuses n hooks = (neg_ℤ (pos n), hooks)

pub record InterruptHookRows : Type 0 where
  -- hook: -8 pin 0 or line not 0..15
  pub pins : map (λ pin. numbered (hook_interrupt one (loaded 5 pin) none 1 0x1000 8))
      (0 ∷ 1 ∷ 2 ∷ 3 ∷ 4 ∷ [])
      ≡ refuses 8 none ∷ leaves has1 ∷ leaves has1 ∷ leaves has1 ∷ leaves has1 ∷ []
  pub lines : map (λ line. numbered (hook_interrupt one (loaded line 1) none 1 0x1000 8))
      (0 ∷ 15 ∷ 16 ∷ 255 ∷ [])
      ≡ leaves has1 ∷ leaves has1 ∷ refuses 8 none ∷ refuses 8 none ∷ []
  -- -6 already hooked
  pub twice : numbered (hook_interrupt one (loaded 5 1) has1 1 0x5000 4) ≡ refuses 6 has1
  -- the order of checks: -9 before -8 (pin 0) and before -6, -8 before -6 (pin 0, line 16)
  pub bad_handle : map (λ handle. numbered (hook_interrupt one records none handle 0x1000 8)) (0 ∷ 1 ∷ 2 ∷ [])
      ≡ refuses 9 none ∷ leaves has1 ∷ refuses 9 none ∷ []
  pub bad_handle_first : map (λ pin. numbered (hook_interrupt one (loaded 5 1 ++ loaded 5 pin) has2 2 0x5000 4))
      (0 ∷ 1 ∷ [])
      ≡ refuses 9 has2 ∷ refuses 9 has2 ∷ []
  pub pin_first : numbered (hook_interrupt one (loaded 5 0) has1 1 0x5000 4) ≡ refuses 8 has1
  pub line_first : numbered (hook_interrupt one (loaded 16 1) has1 1 0x5000 4) ≡ refuses 8 has1
  -- a hook goes last on its line; lines stand in the array in ascending order
  pub last : numbered (hook_interrupt four records has2 1 0x1000 8) ≡ leaves has21
  pub last_on_its_line : numbered (hook_interrupt four records has324 1 0x1000 8) ≡ leaves has3214
  pub order : map (chain_of records has3214) (3 ∷ 5 ∷ 15 ∷ [])
      ≡ (hook 3 0x3000 9 ∷ [])
      ∷ (hook 2 0x2000 7 ∷ hook 1 0x1000 8 ∷ [])
      ∷ (hook 4 0x4000 6 ∷ [])
      ∷ []
  -- all four, hooked in the order 2, 4, 1, 3
  pub hooked : array_after four records none
      (hooking (hook 2 0x2000 7)
      ∷ hooking (hook 4 0x4000 6)
      ∷ hooking (hook 1 0x1000 8)
      ∷ hooking (hook 3 0x3000 9)
      ∷ [])
      ≡ has3214
  -- unhook: -9; -8 not hooked
  pub unhook : map (λ handle. numbered (unhook_interrupt four has21 handle)) (0 ∷ 1 ∷ 2 ∷ 3 ∷ 5 ∷ [])
      ≡ refuses 9 has21 ∷ leaves has2 ∷ leaves has1 ∷ refuses 8 has21 ∷ refuses 9 has21 ∷ []
  pub unhook_bad_handle : numbered (unhook_interrupt one has21 2) ≡ refuses 9 has21
  pub unhook_none : numbered (unhook_interrupt one none 1) ≡ refuses 8 none
  -- the others keep their order; one that is hooked again goes last
  pub unhook_between : numbered (unhook_interrupt four has3214 1) ≡ leaves has324
  pub again : array_after four records has21 (unhooking 2 ∷ hooking (hook 2 0x2000 7) ∷ []) ≡ has12
  -- the same of a chain: whether it has a handle, and what is left without it
  pub among : map (λ handle. is_among handle chain214) (0 ∷ 1 ∷ 2 ∷ 3 ∷ 4 ∷ [])
      ≡ false ∷ true ∷ true ∷ false ∷ true ∷ []
  pub left : map (λ handle. without handle chain214) (1 ∷ 2 ∷ 3 ∷ [])
      ≡ (hook 2 0x2000 7 ∷ hook 4 0x4000 6 ∷ [])
      ∷ (hook 1 0x1000 8 ∷ hook 4 0x4000 6 ∷ [])
      ∷ (hook 2 0x2000 7 ∷ hook 1 0x1000 8 ∷ hook 4 0x4000 6 ∷ [])
      ∷ []
  -- an array that a caller filled: -6 for want of room, and not with one entry free
  pub full : numbered (hook_interrupt one (loaded 5 1) (replicate 48 9) 1 0x1000 8) ≡ refuses 6 (replicate 48 9)
  pub one_free : numbered (hook_interrupt one (loaded 5 1) (replicate 45 9 ++ (0 ∷ 0 ∷ 0 ∷ [])) 1 0x1000 8)
      ≡ leaves (replicate 45 9 ++ (1 ∷ 0x1000 ∷ 8 ∷ []))
