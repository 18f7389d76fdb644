-- A data call as C asks for it. Of a width and an edition that are known, the cells for what was
-- found on the bus are the call's; an unknown edition is refused whatever the width; and what is
-- read is what the cells hold.
use Prim.Native.Nat.{ℕ, ◌+◌, ◌-◌, ◌≤◌}
use mathlib.Core.Bool.{false, true≢false}
use mathlib.Core.List.{List}
use mathlib.Core.Path.{◌≡◌, refl}
use lib.ListN.{length}
use Rattle.std.specs.Prelude.{Option, Some, None, Result, Ok, Err}
use Rattle.numbers.specs.Numbers.{bytes}
use Rattle.numbers.specs.declared.number.Width.{Width}
use Rattle.board.specs.Handles.{place_of_handle}
use Rattle.board.specs.Layout.{offset}
use Rattle.board.specs.Reads.{Read}
use Rattle.board.specs.declared.address.BusAddress.{BusAddress}
use Rattle.board.specs.declared.status.CallRefusal.{CallRefusal}
use Rattle.board.specs.declared.status.CallRefusal.TheVariants.{FuncNotSupported}
use Rattle.call_edition.specs.Edition.{is_known, named_bus}
use Rattle.call_edition.specs.declared.edition.InEdition.{InEdition}
use Rattle.call_edition.proofs.Named.{named_known}
use Rattle.data_window.specs.Find.{Finding, find_in, find_named}
use Rattle.data_cells.specs.Cells.{CellTarget, cell_target_of, cell_target_in, cell_target, cells_value}
use Rattle.data_cells.proofs.Inside.{target_inside}
use Rattle.data_cells.proofs.Named.{target_named}
use Rattle.data_access.specs.declared.c_calls.Access.{Access}
use Rattle.data_access.specs.Data.{data_written, read_at}
use Rattle.data_access.specs.CCalls.{access_of, c_access, c_read_data, no_fast_read, c_fast_read_data, c_write_data}

-- what is read of the width and the cells of a call
abbrev pub read_of : List ℕ → Result Access CallRefusal → Read
read_of cells (Ok a) = Ok (cells_value a.target.order (bytes a.width) a.target.at cells)
read_of cells (Err r) = Err r

module _ (header records windows offsets : List ℕ) (space handle : ℕ) (address : InEdition) where
  -- of a width, an edition and a window on the bus
  known_lem : (width : Width) (bus : BusAddress) (finding : Finding) (function : ℕ) (target : CellTarget) (room : ℕ)
      → named_bus (offset records (handle - 1)) address ≡ Some bus
      → finding ≡ find_in (bytes width) header records windows offsets room space handle bus.0
      → function ≡ place_of_handle handle
      → target ≡ cell_target_in records offsets room (bytes width) function finding
      → target ≡ cell_target (bytes width) header records windows offsets room space handle address
  known_lem width bus finding function target room named found place reached =
      let k = named_known (offset records (handle - 1)) address bus named in
      let window : finding ≡ find_named (bytes width) header records windows offsets room space handle address = rw (k.0, k.1) found in
      target_named header records windows offsets _ _ space _ address _ _ _ window place reached

  -- so the call's, where its width is one
  pub access_lem : (asked : Option Width) (width : Width) (bus : BusAddress) (finding : Finding) (function : ℕ) (target : CellTarget) (room : ℕ)
      → asked ≡ Some width
      → named_bus (offset records (handle - 1)) address ≡ Some bus
      → finding ≡ find_in (bytes width) header records windows offsets room space handle bus.0
      → function ≡ place_of_handle handle
      → target ≡ cell_target_in records offsets room (bytes width) function finding
      → access_of width target ≡ c_access asked header records windows offsets room space handle address
  access_lem asked width bus finding function target room is named found place reached =
      rw (is, known_lem width bus finding function target room named found place reached)

  pub unknown_lem : (asked : Option Width) (room : ℕ) → is_known address ≡ false
      → Err FuncNotSupported ≡ c_access asked header records windows offsets room space handle address
  unfolding cell_target_of
  unknown_lem (Some width) room unknown = rw unknown
  unknown_lem None room unknown = rw unknown

  -- so each call, whatever the cells: a read, a fast read, and a write, which leaves them
  pub unknown_read_lem : (asked : Option Width) (cells : List ℕ) → is_known address ≡ false
      → Err FuncNotSupported ≡ c_read_data asked header records windows offsets cells space handle address
  unfolding cell_target_of
  unknown_read_lem (Some width) cells unknown = rw unknown
  unknown_read_lem None cells unknown = rw unknown

  pub unknown_fast_lem : (asked : Option Width) (cells : List ℕ) → is_known address ≡ false
      → no_fast_read asked ≡ c_fast_read_data asked header records windows offsets cells space handle address
  unfolding cell_target_of
  unknown_fast_lem (Some width) cells unknown = rw unknown
  unknown_fast_lem None cells unknown = refl

  pub unknown_write_lem : (asked : Option Width) (cells : List ℕ) (value : ℕ) → is_known address ≡ false
      → data_written (Err FuncNotSupported) cells ≡ c_write_data asked header records windows offsets cells space handle address value
  unfolding cell_target_of
  unknown_write_lem (Some width) cells value unknown = rw unknown
  unknown_write_lem None cells value unknown = rw unknown

  -- the cells that are given are among those lent
  pub inside_lem : (asked : Option Width) (room : ℕ) (a : Access)
      → c_access asked header records windows offsets room space handle address ≡ Ok a
      → a.target.at + bytes a.width ≤ room
  inside_lem None room a h = absurd (true≢false cc)
  inside_lem (Some width) room a h = by (cell_target (bytes width) header records windows offsets room space handle address) refl h
    where
      by : (t : CellTarget) → cell_target (bytes width) header records windows offsets room space handle address ≡ t
          → access_of width t ≡ Ok a → a.target.at + bytes a.width ≤ room
      by (Ok c) e g = let w : width ≡ a.width = cc in let t : c ≡ a.target = cc in rw (w, t) at (target_inside _ _ _ _ _ c e)
      by (Err r) e g = absurd (true≢false cc)

  pub read_lem : (asked : Option Width) (cells : List ℕ)
      → read_of cells (c_access asked header records windows offsets (length cells) space handle address)
      ≡ c_read_data asked header records windows offsets cells space handle address
  read_lem None cells = refl
  read_lem (Some width) cells = by (cell_target (bytes width) header records windows offsets (length cells) space handle address)
    where
      by : (t : CellTarget) → read_of cells (access_of width t) ≡ read_at (bytes width) cells t
      by (Ok c) = refl
      by (Err r) = refl
