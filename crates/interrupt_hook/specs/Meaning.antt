-- What hooking and unhooking mean, without the proofs: document 01, "Chains and marks".
use Rattle.std.specs.Prelude.{ℕ, zero, suc, ◌*◌, Bool, true, false, cond, ◌||◌, List, [], ◌∷◌, ◌++◌, ◌≡◌, eqb, ℤ, pos, negsuc, length, replicate}
use Rattle.board.specs.Layout.{functions_max, hook_size}
use Rattle.board.specs.Statuses.{number_of, successful}
use Rattle.interrupt_array.specs.declared.hooks.Hook.{Hook}
use Rattle.interrupt_array.specs.Hooks.{hook, line_of, chosen, on_line, chain_of}
use Rattle.interrupt_hook.specs.Chain.{HookOutcome, hook_interrupt, unhook_interrupt}

-- every hook of a list has a property
abbrev pub EveryHook : (Hook → Type 0) → List Hook → Type 0
EveryHook P [] = Unit {0}
EveryHook P (h ∷ hs) = P h × EveryHook P hs

-- an accepted hook goes last on its line, and every other chain stays
abbrev pub GoesLast : Type 0
GoesLast =
    (header records hooks : List ℕ) (handle handler parameter line : ℕ)
    → (hook_interrupt header records hooks handle handler parameter).status ≡ successful
    → chain_of records (hook_interrupt header records hooks handle handler parameter).hooks line
    ≡ cond (eqb line (line_of records handle))
    (chain_of records hooks line ++ hook handle handler parameter ∷ [])
    (chain_of records hooks line)

-- whether a list has a hook of a handle
unfoldable pub is_among : ℕ → List Hook → Bool
is_among handle [] = false
is_among handle (h ∷ hs) = eqb h.handle handle || is_among handle hs

-- a list of hooks without the first one of a handle
unfoldable pub without : ℕ → List Hook → List Hook
without handle [] = []
without handle (h ∷ hs) = cond (eqb h.handle handle) hs (h ∷ without handle hs)

-- an accepted unhook takes the hook of its handle from its chain, and the others keep their order
abbrev pub GoesOut : Type 0
GoesOut =
    (header records hooks : List ℕ) (handle line : ℕ)
    → length hooks ≡ functions_max * hook_size
    → (unhook_interrupt header hooks handle).status ≡ successful
    → chain_of records (unhook_interrupt header hooks handle).hooks line
    ≡ without handle (chain_of records hooks line)

-- the array without hooks
abbrev pub cleared : List ℕ
cleared = replicate (functions_max * hook_size) 0

-- a hook or an unhook that is asked for, and what the call does
pub data HookCall : Type 0 where
  hooking : Hook → HookCall
  unhooking : ℕ → HookCall

abbrev pub performed : List ℕ → List ℕ → List ℕ → HookCall → HookOutcome
performed header records hooks (hooking h) =
    hook_interrupt header records hooks h.handle h.handler h.parameter
performed header records hooks (unhooking handle) = unhook_interrupt header hooks handle

-- the array after such calls, one after the other
unfoldable pub array_after : List ℕ → List ℕ → List ℕ → List HookCall → List ℕ
array_after header records hooks [] = hooks
array_after header records hooks (c ∷ cs) =
    array_after header records (performed header records hooks c).hooks cs

-- the hooks that stand after them, of all lines, in hooking order: an accepted one goes last, and
-- goes out when it is unhooked
abbrev pub is_done : ℤ → Bool
is_done (pos zero) = true
is_done (pos (suc n)) = false
is_done (negsuc n) = false

abbrev pub taken : HookCall → List Hook → List Hook
taken (hooking h) hs = hs ++ h ∷ []
taken (unhooking handle) hs = without handle hs

unfoldable pub in_order : List ℕ → List ℕ → List ℕ → List HookCall → List Hook → List Hook
in_order header records hooks [] hs = hs
in_order header records hooks (c ∷ cs) hs =
    let t = performed header records hooks c in
    in_order header records t.hooks cs (cond (is_done (number_of t.status)) (taken c hs) hs)

-- THE CHAIN OF A LINE, and so its listing, is the hooked functions of that line in hooking order,
-- after any hooks and unhooks from the cleared array on
abbrev pub HookingOrder : Type 0
HookingOrder =
    (header records : List ℕ) (cs : List HookCall) (line : ℕ)
    → chain_of records (array_after header records cleared cs) line
    ≡ chosen (on_line records line) (in_order header records cleared cs [])
