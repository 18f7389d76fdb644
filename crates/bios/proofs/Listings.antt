-- The listings for C.
use Prim.Native.Nat.{ℕ}
use mathlib.Core.Path.{◌≡◌}
use mathlib.Core.List.{List}
use Rattle.window.specs.Window.{Window}
use Rattle.window_listing.specs.Listing.{listing_number, listing_values, Lists}
use Rattle.window_listing.specs.declared.listing.Listed.{Listed}
use Rattle.board.specs.declared.status.CallRefusal.{CallRefusal}
use Rattle.std.specs.Prelude.{Result}
use Rattle.interrupt_array.specs.declared.hooks.Hook.{Hook}
use Rattle.interrupt_list.specs.Listing.{chain_number_of, chain_values_of, ListsChain}
use Rattle.call.specs.declared.answer.Answer.{Answer}
use Rattle.call.specs.Answers.{answer, of_chain}
use Rattle.bios.specs.Exports.{shown, shown_window, shown_hook}

pub list_shown : (l : List Window) (n : ℕ) (r : Result Listed CallRefusal) (a : Answer) → Lists l n r → a ≡ answer (listing_number r) (listing_values r)
    → shown a.number a.values ≡ shown_window l n
list_shown l n r a k e = rw (e, k.number, k.values)

pub chain_shown : (chain : List Hook) (line index : ℕ) (r : Result Hook CallRefusal) (a : Answer) → ListsChain chain line index r
    → a ≡ of_chain (chain_number_of r) (chain_values_of r) → shown a.number a.values ≡ shown_hook chain line index
chain_shown chain line index r a k e = rw (e, k.number, k.values)
