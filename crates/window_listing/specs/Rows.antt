-- Rows with literal numbers of document 01, section "Windows", last sentence, and "Numbers handed
-- back": what the listing gives for an index, and -4 with zeros past the end.
use Rattle.std.specs.Prelude.{ℕ, Bool, true, false, List, [], ◌∷◌, map, ◌≡◌, ℤ, pos, neg_ℤ, Result, Ok, Err}
use Rattle.board.specs.Addresses.{bus}
use Rattle.board.specs.declared.address.BusAddress.{BusAddress}
use Rattle.board.specs.declared.status.CallRefusal.{CallRefusal}
use Rattle.board.specs.declared.status.CallRefusal.TheVariants.{DeviceNotFound}
use Rattle.window_listing.specs.declared.listing.Listed.{Listed}
use Rattle.window_listing.specs.declared.listing.ListedWindow.{ListedWindow}
use Rattle.window_listing.specs.declared.listing.ListedWindow.TheVariants.{Memory, Io}
use Rattle.window.specs.Window.{Window}
use Rattle.window.specs.Rows.{mem, io, clear, contested}
use Rattle.window_listing.specs.Listing.{
  listing,
  listing_number,
  listing_values,
  listed_number,
  listed_values,
}

-- two windows; the first index, the last, the one past the end, and the highest of all
abbrev two : List Window
two = mem 0x80000000 0x400 1 0 clear ∷ io 0x00000100 0x10 2 1 contested ∷ []

abbrev indices : List ℕ
indices = 0 ∷ 1 ∷ 2 ∷ 0xFFFFFFFF ∷ []

-- an answer by its space, start, length, handle, base register and mark
abbrev window : (BusAddress → ℕ → ListedWindow) → ℕ → ℕ → ℕ → ℕ → Bool → Result Listed CallRefusal
window space start length handle base mark =
    Ok (record {
      window = space (bus start) length;
      handle = handle;
      base = base;
      contested = mark;
    })

abbrev answers : List (Result Listed CallRefusal)
answers =
    window Memory 0x80000000 0x400 1 0 false
    ∷ window Io 0x00000100 0x10 2 1 true
    ∷ Err DeviceNotFound
    ∷ Err DeviceNotFound
    ∷ []

abbrev numbers : List ℤ
numbers = pos 0 ∷ pos 0 ∷ neg_ℤ (pos 4) ∷ neg_ℤ (pos 4) ∷ []

-- space, start, length, handle, base register, mark
abbrev values : List (List ℕ)
values =
    (0 ∷ 0x80000000 ∷ 0x400 ∷ 1 ∷ 0 ∷ 0 ∷ [])
    ∷ (1 ∷ 0x00000100 ∷ 0x10 ∷ 2 ∷ 1 ∷ 1 ∷ [])
    ∷ (0 ∷ 0 ∷ 0 ∷ 0 ∷ 0 ∷ 0 ∷ [])
    ∷ (0 ∷ 0 ∷ 0 ∷ 0 ∷ 0 ∷ 0 ∷ [])
    ∷ []

pub record WindowListingRows : Type 0 where
  -- a window, memory or I/O, with its start, length, handle, base register and mark; past the end
  -- DEVICE_NOT_FOUND
  pub answered : map (listing two) indices ≡ answers
  -- the number and the values of each answer; a refused listing gives zeros
  pub answer_numbers : map listing_number answers ≡ numbers
  pub answer_values : map listing_values answers ≡ values
  -- the same by the index
  pub listed_numbers : map (listed_number two) indices ≡ numbers
  pub listed_windows : map (listed_values two) indices ≡ values
  -- no window at all
  pub no_window : listing [] 0 ≡ Err DeviceNotFound
  pub no_window_number : listed_number [] 0 ≡ neg_ℤ (pos 4)
