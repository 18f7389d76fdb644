-- The step that finds the window for a handle: document 01, "Numbers handed back", Data. Several
-- checks have the same number; a finding names the check that failed, so that the order of all of
-- them is stated. Where two windows of a function hold an address both are contested, so that the
-- first of the list decides.
use Rattle.std.specs.Prelude.{ℕ, ◌-◌, ◌/◌, ◌%◌, Bool, cond, ◌&&◌, List, [], ◌∷◌, ◌==◌, nat_le, nat_lt, slice_index, pos, Option, Some, None, Result, Ok, Err}
use Rattle.board.specs.Handles.{is_handle}
use Rattle.board.specs.Layout.{bases, windows_max, widths, offset}
use Rattle.board.specs.Statuses.{refusal_number}
use Rattle.board.specs.declared.status.CallRefusal.{CallRefusal}
use Rattle.board.specs.declared.status.CallRefusal.TheVariants as Refusals
use Rattle.numbers.specs.Numbers.{is_multiple}
use Rattle.numbers.specs.declared.number.Width.{Width}
use Rattle.board.specs.declared.space.Space.{Space}
use Rattle.call_edition.specs.Edition.{is_known, bus_of}
use Rattle.call_edition.specs.declared.edition.InEdition.{InEdition}
use Rattle.data_window.specs.declared.find.DataAddress.{DataAddress}
use Rattle.window.specs.Kept.{unpacked}
use Rattle.window.specs.Window.{Window, end}
use Rattle.data_window.specs.declared.find.Found.{Found}
use Rattle.data_window.specs.declared.found.FoundWindow.{FoundWindow}
use Rattle.data_window.specs.declared.refusal.DataRefusal.{DataRefusal}
use Rattle.data_window.specs.declared.refusal.DataRefusal.TheVariants.{
  UnknownEdition,
  BadHandle,
  ShortCells,
  NotAligned,
  Nothing,
  Contested,
  WidthMissing,
  PastBuffer,
}
use Rattle.data_window.specs.declared.refusal.Reason.{Reason}
use Rattle.data_window.specs.declared.refusal.Reason.TheVariants as Reasons

-- what a data access names, on the bus or as its caller names that
abbrev pub data_address : {A : Type 0} → Space → Width → ℕ → A → DataAddress A
data_address space width handle address =
    record { space = space; width = width; handle = handle; address = address }

-- the window that is found, or the check that failed
abbrev pub Finding : Type 0
Finding = Result Found DataRefusal

-- a base register, with the distance from its window's start and the bytes that remain to the end
abbrev pub found : ℕ → ℕ → ℕ → Finding
found base distance remaining =
    Ok (record { base = base; distance = distance; remaining = remaining })

-- a window of a function's own, in that space, that holds the address; no function has a base
-- register past its six
abbrev pub holds : ℕ → ℕ → ℕ → Window → Bool
holds space handle address w =
    (w.space == space)
    && (w.handle == handle
    && (nat_lt w.base bases
    && (nat_le w.start address && nat_lt address (end w))))

-- widths offer w bytes: bit 0 for 1, bit 1 for 2, bit 2 for 4
abbrev pub offers : ℕ → ℕ → Bool
offers w widths = widths / w % 2 == 1

-- of a window that holds the address: contested, or not of this width, or found with the distance
-- from its start and the bytes that remain to its end
abbrev pub checked_window : (ℕ → Bool) → ℕ → Window → Finding
checked_window offered address w =
    cond w.contested (Err Contested)
    (cond (offered w.base) (found w.base (address - w.start) (end w - address))
    (Err WidthMissing))

-- of the first window of a list that holds it
unfoldable pub in_list : (ℕ → Bool) → ℕ → ℕ → ℕ → List Window → Finding
in_list offered space handle address [] = Err Nothing
in_list offered space handle address (w ∷ l) =
    cond (holds space handle address w) (checked_window offered address w)
    (in_list offered space handle address l)

-- the checks in their order, of a handle that is good or not and cells that are short or not;
-- offered b: base register b offers this width
unfoldable pub find : Bool → Bool → (ℕ → Bool) → List Window → ℕ → ℕ → ℕ → ℕ → Finding
find good short offered l space w handle address =
    cond good
    (cond short (Err ShortCells)
    (cond (is_multiple address w) (in_list offered space handle address l) (Err NotAligned)))
    (Err BadHandle)

-- the refusal that is handed back for each; a cell past the buffer, which only an altered board
-- has, is found after all that is tested here
abbrev pub refusal_of : DataRefusal → CallRefusal
refusal_of UnknownEdition = Refusals.FuncNotSupported
refusal_of BadHandle = Refusals.BadHandle
refusal_of ShortCells = Refusals.BufferTooSmall
refusal_of NotAligned = Refusals.GeneralError
refusal_of Nothing = Refusals.GeneralError
refusal_of Contested = Refusals.GeneralError
refusal_of WidthMissing = Refusals.FuncNotSupported
refusal_of PastBuffer = Refusals.BufferTooSmall

-- the reason handed on beside the number or the fault flag, request E3; there is none for -9, -7
-- and an unknown edition
abbrev pub reason_of : DataRefusal → Option Reason
reason_of UnknownEdition = None
reason_of BadHandle = None
reason_of ShortCells = None
reason_of NotAligned = Some Reasons.NotAligned
reason_of Nothing = Some Reasons.Nothing
reason_of Contested = Some Reasons.Contested
reason_of WidthMissing = Some Reasons.WidthMissing
reason_of PastBuffer = None

-- 1 not aligned, 2 nothing there, 3 contested, 4 width missing
abbrev pub number_of_reason : Reason → ℕ
number_of_reason Reasons.NotAligned = 1
number_of_reason Reasons.Nothing = 2
number_of_reason Reasons.Contested = 3
number_of_reason Reasons.WidthMissing = 4

-- 0 where there is none
abbrev pub no_reason : ℕ
no_reason = 0

abbrev pub reason_number : Option Reason → ℕ
reason_number (Some r) = number_of_reason r
reason_number None = no_reason

-- what `find_window` hands back: which window and how many bytes remain from the address to its
-- end, or the number and the reason
abbrev pub found_window : Finding → FoundWindow
found_window (Ok f) =
    record { number = pos 0; base = f.base; remaining = f.remaining; reason = no_reason }
found_window (Err r) =
    record {
      number = refusal_number (refusal_of r);
      base = 0;
      remaining = 0;
      reason = reason_number (reason_of r);
    }

-- of the lent parts, with so many cells lent
abbrev pub find_in : ℕ → List ℕ → List ℕ → List ℕ → List ℕ → ℕ → ℕ → ℕ → ℕ → Finding
find_in w header records windows offsets room space handle address =
    find (is_handle header handle) (nat_lt room (slice_index offsets windows_max))
    (λ b. offers w (widths records (handle - 1) b))
    (unpacked windows) space w handle address

-- the edition is tested before all else
abbrev pub if_known : InEdition → Finding → Finding
if_known named finding = cond (is_known named) finding (Err UnknownEdition)

-- of the lent parts, for the bus address that the caller's number is
abbrev pub find_named : ℕ → List ℕ → List ℕ → List ℕ → List ℕ → ℕ → ℕ → ℕ → InEdition → Finding
find_named w header records windows offsets room space handle address =
    if_known address
    (find_in w header records windows offsets room space handle
    (bus_of (offset records (handle - 1)) address).0)
