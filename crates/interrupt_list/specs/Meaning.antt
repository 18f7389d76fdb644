-- What the chain listing means, without the proof: document 01, "Chains and marks".
use Rattle.std.specs.Prelude.{ℕ, ◌≤◌, List, ◌∷◌, ◌++◌, ◌↔◌, ◌≡◌, length, Err}
use Rattle.board.specs.declared.status.CallRefusal.TheVariants.{DeviceNotFound}
use Rattle.interrupt_array.specs.declared.hooks.Hook.{Hook}
use Rattle.interrupt_array.specs.Hooks.{last_line}
use Rattle.interrupt_list.specs.Listing.{found_hook, chain_listing}

-- the listing of a line gives the hook with so many before it, and -4 exactly past the end
pub record HooksListed (chain : List Hook) (line : ℕ) : Type 0 where
  pub given : (before after : List Hook) (h : Hook) → chain ≡ before ++ h ∷ after
      → chain_listing chain line (length before) ≡ found_hook h
  pub missing : (index : ℕ) → (chain_listing chain line index ≡ Err DeviceNotFound)
      ↔ (length chain ≤ index)

abbrev pub ChainListed : Type 0
ChainListed = (chain : List Hook) (line : ℕ) → line ≤ last_line → HooksListed chain line
