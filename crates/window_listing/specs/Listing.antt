-- The listing: document 01, "Windows", last sentence, and "Numbers handed back".
use Rattle.std.specs.Prelude.{ℕ, zero, suc, Bool, true, false, cond, List, [], ◌∷◌, ◌≡◌, eqb, ℤ, replicate, Result, Ok, Err}
use Rattle.board.specs.Addresses.{bus, bus_number}
use Rattle.board.specs.Statuses.{number_of, successful, device_not_found}
use Rattle.board.specs.declared.address.BusAddress.{BusAddress}
use Rattle.board.specs.declared.status.CallRefusal.{CallRefusal}
use Rattle.board.specs.declared.status.CallRefusal.TheVariants.{DeviceNotFound}
use Rattle.window_listing.specs.declared.listing.Listed.{Listed}
use Rattle.window_listing.specs.declared.listing.ListedWindow.{ListedWindow}
use Rattle.window_listing.specs.declared.listing.ListedWindow.TheVariants.{Memory, Io}
use Rattle.window.specs.Window.{Window}

-- a window of the I/O or of the memory space
abbrev pub in_space : Bool → BusAddress → ℕ → ListedWindow
in_space true start length = Io start length
in_space false start length = Memory start length

-- what is handed back of a window
abbrev pub found_window : Window → Listed
found_window w =
    record {
      window = in_space (eqb w.space 1) (bus w.start) w.length;
      handle = w.handle;
      base = w.base;
      contested = w.contested;
    }

-- the window at index n of a list, from 0; past the end DEVICE_NOT_FOUND
unfoldable pub listing : List Window → ℕ → Result Listed CallRefusal
listing [] n = Err DeviceNotFound
listing (w ∷ l) zero = Ok (found_window w)
listing (w ∷ l) (suc n) = listing l n

-- the number of an answer, and its values: space (1 for I/O), start, length, handle, base register,
-- contested (1 where it is)
abbrev pub listing_number : Result Listed CallRefusal → ℤ
listing_number r = number_of r

abbrev pub listed_space : ListedWindow → ℕ
listed_space (Memory start length) = 0
listed_space (Io start length) = 1

abbrev pub listed_start : ListedWindow → ℕ
listed_start (Memory start length) = bus_number start
listed_start (Io start length) = bus_number start

abbrev pub listed_length : ListedWindow → ℕ
listed_length (Memory start length) = length
listed_length (Io start length) = length

abbrev pub listing_values : Result Listed CallRefusal → List ℕ
listing_values (Ok w) =
    listed_space w.window ∷ listed_start w.window ∷ listed_length w.window
    ∷ w.handle ∷ w.base ∷ cond w.contested 1 0 ∷ []
listing_values (Err r) = replicate 6 0

-- document 01's number and values for index n of a list: zeros past the end
unfoldable pub listed_number : List Window → ℕ → ℤ
listed_number [] n = number_of device_not_found
listed_number (w ∷ l) zero = number_of successful
listed_number (w ∷ l) (suc n) = listed_number l n

unfoldable pub listed_values : List Window → ℕ → List ℕ
listed_values [] n = replicate 6 0
listed_values (w ∷ l) zero =
    cond (eqb w.space 1) 1 0 ∷ w.start ∷ w.length
    ∷ w.handle ∷ w.base ∷ cond w.contested 1 0 ∷ []
listed_values (w ∷ l) (suc n) = listed_values l n

-- an answer is that of index n of a list, and hands back its number and values
pub record Lists (l : List Window) (n : ℕ) (r : Result Listed CallRefusal) : Type 0 where
  pub answer : r ≡ listing l n
  pub number : listing_number r ≡ listed_number l n
  pub values : listing_values r ≡ listed_values l n
