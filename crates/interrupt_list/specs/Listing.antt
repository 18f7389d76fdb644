-- The chain listing: document 01, "Chains and marks" and "Numbers handed back".
use Rattle.std.specs.Prelude.{ℕ, zero, suc, cond, List, [], ◌∷◌, ◌≡◌, ltb, ℤ, replicate, Result, Ok, Err}
use Rattle.board.specs.Layout.{hook_size}
use Rattle.board.specs.Statuses.{number_of, successful, device_not_found, general_error}
use Rattle.board.specs.declared.status.CallRefusal.{CallRefusal}
use Rattle.board.specs.declared.status.CallRefusal.TheVariants.{DeviceNotFound, GeneralError}
use Rattle.interrupt_array.specs.declared.hooks.Hook.{Hook}
use Rattle.interrupt_array.specs.Hooks.{last_line}

-- the answer: a hook, or a refusal
abbrev pub ChainListing : Type 0
ChainListing = Result Hook CallRefusal

abbrev pub found_hook : Hook → ChainListing
found_hook h = Ok h

-- the hook at an index of a chain, from 0; past the end -4
unfoldable pub listed_hook : List Hook → ℕ → ChainListing
listed_hook [] index = Err DeviceNotFound
listed_hook (h ∷ hs) zero = found_hook h
listed_hook (h ∷ hs) (suc index) = listed_hook hs index

-- -8 line above 15; -4 past the end
abbrev pub chain_listing : List Hook → ℕ → ℕ → ChainListing
chain_listing chain line index =
    cond (ltb last_line line) (Err GeneralError) (listed_hook chain index)

-- the number of an answer, and its values: handle, handler, parameter
abbrev pub chain_number_of : ChainListing → ℤ
chain_number_of r = number_of r

abbrev pub chain_values_of : ChainListing → List ℕ
chain_values_of (Ok h) = h.handle ∷ h.handler ∷ h.parameter ∷ []
chain_values_of (Err refusal) = replicate hook_size 0

-- document 01's number and values for an index of a line's chain: zeros where refused
unfoldable pub hook_listed_number : List Hook → ℕ → ℤ
hook_listed_number [] index = number_of device_not_found
hook_listed_number (h ∷ hs) zero = number_of successful
hook_listed_number (h ∷ hs) (suc index) = hook_listed_number hs index

unfoldable pub hook_listed_values : List Hook → ℕ → List ℕ
hook_listed_values [] index = replicate hook_size 0
hook_listed_values (h ∷ hs) zero = h.handle ∷ h.handler ∷ h.parameter ∷ []
hook_listed_values (h ∷ hs) (suc index) = hook_listed_values hs index

abbrev pub chain_number : List Hook → ℕ → ℕ → ℤ
chain_number chain line index =
    cond (ltb last_line line) (number_of general_error) (hook_listed_number chain index)

abbrev pub chain_values : List Hook → ℕ → ℕ → List ℕ
chain_values chain line index =
    cond (ltb last_line line) (replicate hook_size 0) (hook_listed_values chain index)

-- an answer is that for an index of a line's chain, and has its number and values
pub record ListsChain (chain : List Hook) (line index : ℕ) (r : ChainListing) : Type 0 where
  pub answer : r ≡ chain_listing chain line index
  pub number : chain_number_of r ≡ chain_number chain line index
  pub values : chain_values_of r ≡ chain_values chain line index
