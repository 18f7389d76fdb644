-- Rows with literal numbers of document 01, "Numbers handed back", "Windows" and "Board image": the
-- widths that a window offers, which window holds an address, each refusal of a data access by
-- itself and each two of them at once; of request E1: what is found for an address in each call
-- edition; and of request E3: the reason of each refusal, and what `find_window` hands back.
use Rattle.std.specs.Prelude.{◌≡◌, ℕ, Bool, true, false, List, [], ◌∷◌, ◌++◌, map, replicate, slice_index, ℤ, pos, neg_ℤ, Err}
use Rattle.board.specs.Statuses.{refusal_number}
use Rattle.window.specs.Kept.{pack}
use Rattle.window.specs.Window.{Window}
use Rattle.window.specs.Rows.{mem, io, clear, contested}
use Rattle.call_edition.specs.Edition.{in_edition, in_draft, in_later}
use Rattle.call_edition.specs.declared.edition.InEdition.{InEdition}
use Rattle.data_window.specs.declared.refusal.DataRefusal.{DataRefusal}
use Rattle.data_window.specs.declared.refusal.DataRefusal.TheVariants.{
  UnknownEdition,
  BadHandle,
  ShortCells,
  NotAligned,
  Nothing,
  Contested,
  WidthMissing,
  PastBuffer,
}
use Rattle.data_window.specs.declared.found.FoundWindow.{FoundWindow}
use Rattle.data_window.specs.Find.{
  Finding,
  found,
  offers,
  find,
  refusal_of,
  reason_of,
  reason_number,
  found_window,
  find_in,
  find_named,
}

-- one width, two, three, none, and a bit that plays no part, alone and beside bit 2
abbrev some_widths : List ℕ
some_widths = 1 ∷ 2 ∷ 4 ∷ 3 ∷ 6 ∷ 7 ∷ 0 ∷ 8 ∷ 12 ∷ []

-- memory windows of handles 1 and 2, of which two are at one place and one ends at 2^32, and an I/O
-- window of handle 2
abbrev list : List Window
list =
    mem 0x80000000 0x400 1 0 clear
    ∷ mem 0x80000400 0x400 2 0 clear
    ∷ mem 0x90000000 0x100 1 1 contested
    ∷ mem 0x90000000 0x100 2 2 contested
    ∷ mem 0xFFFFFF00 0x100 1 2 clear
    ∷ io 0x100 0x10 2 1 clear
    ∷ []

-- what is found there, where base registers 0 and 2 of both offer all widths and 1 bytes alone
abbrev checked : Bool → Bool → ℕ → ℕ → ℕ → ℕ → Finding
checked good short space w handle address =
    find good short (λ b. offers w (slice_index (7 ∷ 1 ∷ 7 ∷ []) b)) list space w handle address

-- with a good handle and cells that are long enough
abbrev sought : ℕ → ℕ → ℕ → ℕ → Finding
sought space w handle address = checked true false space w handle address

-- an access refused alone for its alignment, its window, the mark there, the width there
abbrev refused_alone : Bool → Bool → List Finding
refused_alone good short =
    checked good short 0 4 1 0x80000002
    ∷ checked good short 0 4 1 0x80000400
    ∷ checked good short 0 1 1 0x90000000
    ∷ checked good short 1 2 2 0x100
    ∷ []

-- the same windows as the lent parts have them: 2 functions, 2,832 cells; base register 0 of the
-- first function offers all widths, of the second words and longwords; their offsets are
-- F0000000h and 400h
abbrev record_of : ℕ → List ℕ → List ℕ
record_of widths0 offset =
    replicate 512 0 ++ (10 ∷ 0 ∷ widths0 ∷ 0 ∷ replicate 20 0) ++ offset ++ replicate 4 0

abbrev two_records : List ℕ
two_records = record_of 7 (0xF0 ∷ 0 ∷ 0 ∷ 0 ∷ []) ++ record_of 6 (0 ∷ 0 ∷ 0x04 ∷ 0 ∷ [])

abbrev found_in : ℕ → ℕ → ℕ → ℕ → Finding
found_in w room handle address =
    find_in w (2 ∷ 0 ∷ 0 ∷ 0 ∷ []) two_records (map pack list) (replicate 96 0 ++ 2832 ∷ [])
    room 0 handle address

-- longwords, as a caller names them
abbrev found_named : ℕ → ℕ → InEdition → Finding
found_named room handle address =
    find_named 4 (2 ∷ 0 ∷ 0 ∷ 0 ∷ []) two_records (map pack list) (replicate 96 0 ++ 2832 ∷ [])
    room 0 handle address

-- one in the editions 0, 1, 2, 3 and 102h
abbrev in_editions : ℕ → ℕ → ℕ → List Finding
in_editions room handle number =
    map (λ e. found_named room handle (in_edition number e)) (0 ∷ 1 ∷ 2 ∷ 3 ∷ 0x102 ∷ [])

-- where 1 and 2 are told two findings, and any other edition is none
abbrev told : Finding → Finding → List Finding
told draft later =
    Err UnknownEdition ∷ draft ∷ later ∷ Err UnknownEdition ∷ Err UnknownEdition ∷ []

-- a number below 0
abbrev minus : ℕ → ℤ
minus n = neg_ℤ (pos n)

-- the number of a refusal
abbrev number : DataRefusal → ℤ
number r = refusal_number (refusal_of r)

-- what `find_window` hands back: base register and bytes that remain; number and reason
abbrev window : ℕ → ℕ → FoundWindow
window base remaining =
    record { number = pos 0; base = base; remaining = remaining; reason = 0 }

abbrev no_window : ℕ → ℕ → FoundWindow
no_window number reason =
    record { number = minus number; base = 0; remaining = 0; reason = reason }

pub record DataWindowRows : Type 0 where
  -- bit 0: 8, bit 1: 16, bit 2: 32 bits
  pub bit0 : map (offers 1) some_widths
      ≡ true ∷ false ∷ false ∷ true ∷ false ∷ true ∷ false ∷ false ∷ false ∷ []
  pub bit1 : map (offers 2) some_widths
      ≡ false ∷ true ∷ false ∷ true ∷ true ∷ true ∷ false ∷ false ∷ false ∷ []
  pub bit2 : map (offers 4) some_widths
      ≡ false ∷ false ∷ true ∷ false ∷ true ∷ true ∷ false ∷ false ∷ true ∷ []
  -- the address before a window, its first, its last, and one past; so too of longwords (P9, P10)
  pub bytes_held : map (sought 0 1 1) (0x7FFFFFFF ∷ 0x80000000 ∷ 0x800003FF ∷ 0x80000400 ∷ [])
      ≡ Err Nothing ∷ found 0 0 0x400 ∷ found 0 0x3FF 1 ∷ Err Nothing ∷ []
  pub longwords_held : map (sought 0 4 1) (0x7FFFFFFC ∷ 0x80000000 ∷ 0x800003FC ∷ 0x80000400 ∷ [])
      ≡ Err Nothing ∷ found 0 0 0x400 ∷ found 0 0x3FC 4 ∷ Err Nothing ∷ []
  -- another handle's window does not count
  pub other_handle : map (λ handle. sought 0 4 handle 0x80000400) (1 ∷ 2 ∷ [])
      ≡ Err Nothing ∷ found 0 0 0x400 ∷ []
  -- nor does a window in the other space
  pub other_space : map (λ space. sought space 1 2 0x10F) (0 ∷ 1 ∷ [])
      ≡ Err Nothing ∷ found 1 0xF 1 ∷ []
  -- a window's end may be 2^32
  pub last_addresses : map (sought 0 1 1) (0xFFFFFEFF ∷ 0xFFFFFF00 ∷ 0xFFFFFFFF ∷ 0 ∷ [])
      ≡ Err Nothing ∷ found 2 0 0x100 ∷ found 2 0xFF 1 ∷ Err Nothing ∷ []
  -- a function has six base registers
  pub six_bases :
      map (λ b. find true false (λ c. true) (mem 0x100 0x10 1 b clear ∷ []) 0 1 1 0x100)
      (5 ∷ 6 ∷ [])
      ≡ found 5 0 0x10 ∷ Err Nothing ∷ []
  -- the number of each refusal, in the order of the checks; a cell past the buffer answers -7
  pub numbers :
      map number
      (BadHandle ∷ ShortCells ∷ NotAligned ∷ Nothing ∷ Contested ∷ WidthMissing ∷ PastBuffer ∷ [])
      ≡ minus 9 ∷ minus 7 ∷ minus 8 ∷ minus 8 ∷ minus 8 ∷ minus 2 ∷ minus 7 ∷ []
  pub edition_number : number UnknownEdition ≡ minus 2
  -- each check fails by itself
  pub handle_alone : checked false false 0 4 1 0x80000000 ≡ Err BadHandle
  pub cells_alone : checked true true 0 4 1 0x80000000 ≡ Err ShortCells
  pub others_alone : refused_alone true false
      ≡ Err NotAligned ∷ Err Nothing ∷ Err Contested ∷ Err WidthMissing ∷ []
  -- of two that fail at once the first is told: the handle before the cells and all others
  pub handle_and_cells : checked false true 0 4 1 0x80000000 ≡ Err BadHandle
  pub handle_first : refused_alone false false ≡ replicate 4 (Err BadHandle)
  -- the cells before the alignment, the window, the mark and the width
  pub cells_first : refused_alone true true ≡ replicate 4 (Err ShortCells)
  -- the alignment before the window, the mark and the width
  pub alignment_first : sought 0 4 1 0x80000402 ∷ sought 0 2 2 0x90000001 ∷ sought 1 2 2 0x101 ∷ []
      ≡ replicate 3 (Err NotAligned)
  -- the mark before the width
  pub mark_first : sought 0 2 1 0x90000000 ≡ Err Contested
  -- of the lent parts: handles are 1 to the count; cells may not be shorter than the total; the
  -- widths are those of the function's own record
  pub handles : map (λ handle. found_in 4 2832 handle 0x80000000) (0 ∷ 1 ∷ 2 ∷ 3 ∷ [])
      ≡ Err BadHandle ∷ found 0 0 0x400 ∷ Err Nothing ∷ Err BadHandle ∷ []
  pub rooms : map (λ room. found_in 4 room 1 0x80000000) (2831 ∷ 2832 ∷ 2833 ∷ [])
      ≡ Err ShortCells ∷ found 0 0 0x400 ∷ found 0 0 0x400 ∷ []
  pub own_widths : map (λ w. found_in w 2832 2 0x80000400) (1 ∷ 2 ∷ 4 ∷ [])
      ≡ Err WidthMissing ∷ found 0 0 0x400 ∷ found 0 0 0x400 ∷ []
  -- an unknown edition before the handle, the cells, the alignment, the window, the mark and the
  -- width, and alone
  pub edition_and_handle : map (λ handle. in_editions 2832 handle 0x80000000) (0 ∷ 9 ∷ [])
      ≡ replicate 2 (told (Err BadHandle) (Err BadHandle))
  pub edition_and_cells : in_editions 2831 1 0x80000000
      ≡ told (Err ShortCells) (Err ShortCells)
  pub edition_and_alignment : in_editions 2832 1 0x80000002
      ≡ told (Err NotAligned) (Err NotAligned)
  pub edition_and_window : in_editions 2832 1 0x60000000 ≡ told (Err Nothing) (Err Nothing)
  pub edition_and_mark : in_editions 2832 1 0x90000000 ≡ told (Err Nothing) (Err Contested)
  pub edition_and_width : in_editions 2832 1 0xFFFFFF00
      ≡ told (Err Nothing) (Err WidthMissing)
  pub edition_alone : in_editions 2832 1 0x80000000 ≡ told (Err Contested) (found 0 0 0x400)
  -- the CPU address less the function's own offset: F0000000h of handle 1, at both ends of its
  -- window
  pub draft_first : map (λ n. found_named 2832 1 (in_draft n))
      (0x6FFFFFFC ∷ 0x70000000 ∷ 0x700003FC ∷ 0x70000400 ∷ 0x800003FC ∷ [])
      ≡ Err Nothing ∷ found 0 0 0x400 ∷ found 0 0x3FC 4 ∷ Err Nothing ∷ Err Nothing
      ∷ []
  -- 400h of handle 2
  pub draft_second : map (λ n. found_named 2832 2 (in_draft n))
      (0x800007FC ∷ 0x80000800 ∷ 0x80000BFC ∷ 0x80000C00 ∷ [])
      ≡ Err Nothing ∷ found 0 0 0x400 ∷ found 0 0x3FC 4 ∷ Err Nothing ∷ []
  -- the bus address itself
  pub later_first : map (λ n. found_named 2832 1 (in_later n))
      (0x700003FC ∷ 0x800003FC ∷ 0x80000400 ∷ [])
      ≡ Err Nothing ∷ found 0 0x3FC 4 ∷ Err Nothing ∷ []
  -- the reason of each refusal, in the order of the checks: none; not aligned, nothing there,
  -- contested, width missing; none
  pub reasons :
      map (λ r. reason_number (reason_of r))
      (UnknownEdition ∷ BadHandle ∷ ShortCells
      ∷ NotAligned ∷ Nothing ∷ Contested ∷ WidthMissing
      ∷ PastBuffer ∷ [])
      ≡ 0 ∷ 0 ∷ 0 ∷ 1 ∷ 2 ∷ 3 ∷ 4 ∷ 0 ∷ []
  -- the bytes that remain, from the address to the window's end: whole, 4, and past the end none
  pub remaining : map (λ a. found_window (sought 0 4 1 a)) (0x80000000 ∷ 0x800003FC ∷ 0x80000400 ∷ [])
      ≡ window 0 0x400 ∷ window 0 4 ∷ no_window 8 2 ∷ []
  -- the last byte leaves 1, also in I/O and where the end is 2^32
  pub last_bytes : found_window (sought 1 1 2 0x10F) ∷ found_window (sought 0 1 1 0xFFFFFFFF) ∷ []
      ≡ window 1 1 ∷ window 2 1 ∷ []
  -- a refusal alone
  pub refused_for : map found_window
      (checked false false 0 4 1 0x80000000
      ∷ checked true true 0 4 1 0x80000000
      ∷ refused_alone true false)
      ≡ no_window 9 0 ∷ no_window 7 0 ∷ no_window 8 1 ∷ no_window 8 2 ∷ no_window 8 3 ∷ no_window 2 4
      ∷ []
  -- of two at once the reason of the first: misaligned and outside, misaligned and contested,
  -- contested and the width missing
  pub first_reasons : map found_window
      (sought 0 4 1 0x80000402 ∷ sought 0 2 2 0x90000001 ∷ sought 0 2 1 0x90000000 ∷ [])
      ≡ no_window 8 1 ∷ no_window 8 1 ∷ no_window 8 3 ∷ []
  -- an unknown edition has none; in draft 1.9 the bytes remain from the bus address
  pub reasons_in_editions : map found_window (in_editions 2832 1 0xFFFFFF00)
      ≡ no_window 2 0 ∷ no_window 8 2 ∷ no_window 2 4 ∷ no_window 2 0 ∷ no_window 2 0 ∷ []
  pub draft_remaining : map (λ n. found_window (found_named 2832 1 (in_draft n)))
      (0x70000000 ∷ 0x700003FC ∷ [])
      ≡ window 0 0x400 ∷ window 0 4 ∷ []
