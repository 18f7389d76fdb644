-- Rows with literal numbers of document 01, "Numbers handed back" and "Data and byte order": data
-- calls of one small board, accepted and refused, and those of C with a width that is none; and of
-- request E1: the same in each call edition.
use Rattle.std.specs.Prelude.{ℕ, Bool, true, false, List, [], ◌∷◌, ◌++◌, map, ◌≡◌, ℤ, pos, neg_ℤ, replicate}
use Rattle.board.specs.FromC.{width_from_c}
use Rattle.board.specs.Reads.{Read, value_of}
use Rattle.board.specs.Statuses.{number_of}
use Rattle.board.specs.declared.read.FastRead.{FastRead}
use Rattle.call_edition.specs.Edition.{in_edition, in_later}
use Rattle.call_edition.specs.declared.edition.InEdition.{InEdition}
use Rattle.window.specs.Kept.{pack}
use Rattle.window.specs.Rows.{mem, clear, contested}
use Rattle.data_access.specs.Data.{DataWritten, read_data, fast_read_data, write_data}
use Rattle.data_access.specs.CCalls.{c_read_data, c_fast_read_data, c_write_data}

-- answers by their numbers
pub record ReadAnswer : Type 0 where
  pub number : ℤ
  pub value : ℕ

abbrev read : ℤ → ℕ → ReadAnswer
read number value = record { number = number; value = value }

abbrev read_answer : Read → ReadAnswer
read_answer r = read (number_of r) (value_of r)

abbrev fast_read : ℕ → Bool → FastRead
fast_read value fault = record { value = value; fault = fault }

pub record WriteAnswer : Type 0 where
  pub number : ℤ
  pub cells : List ℕ

abbrev written : ℤ → List ℕ → WriteAnswer
written number cells = record { number = number; cells = cells }

abbrev write_answer : DataWritten → WriteAnswer
write_answer w = written (number_of w.status) w.cells

-- a board of one function with memory windows of 16 cells each: base register 0 in order 1 and 1 in
-- order 2, with all widths, 2 contested, 3 for bytes alone; its offset is F0000000h
abbrev header : List ℕ
header = 1 ∷ 0 ∷ 0 ∷ 0 ∷ []

abbrev records : List ℕ
records =
    replicate 512 0
    ++ (4 ∷ 1 ∷ 7 ∷ 0 ∷ 4 ∷ 2 ∷ 7 ∷ 0 ∷ 4 ∷ 0 ∷ 7 ∷ 0 ∷ 4 ∷ 0 ∷ 1 ∷ 0 ∷ replicate 8 0)
    ++ (0xF0 ∷ replicate 7 0)

abbrev windows : List ℕ
windows =
    map pack
    (mem 0x80000000 16 1 0 clear
    ∷ mem 0x88000000 16 1 1 clear
    ∷ mem 0x90000000 16 1 2 contested
    ∷ mem 0xA0000000 16 1 3 clear
    ∷ [])

abbrev offsets : List ℕ
offsets = 0 ∷ 16 ∷ 32 ∷ 48 ∷ replicate 93 64

-- the first cells of the first window and of the second, and so many more
abbrev cells_of : List ℕ → List ℕ → ℕ → List ℕ
cells_of first second more = first ++ (replicate 12 0 ++ (second ++ replicate more 0))

-- those of P13 in both
abbrev p13 : List ℕ
p13 = 0x11 ∷ 0x22 ∷ 0x33 ∷ 0x44 ∷ []

abbrev cells : ℕ → List ℕ
cells more = cells_of p13 p13 more

-- an access: its width, handle and address, and how many more cells are lent; with 44 they are the
-- board's 64
pub record Access : Type 0 where
  pub width : ℕ
  pub handle : ℕ
  pub address : InEdition
  pub lent : ℕ

abbrev access : ℕ → ℕ → ℕ → ℕ → Access
access width handle address lent =
    record { width = width; handle = handle; address = in_later address; lent = lent }

-- the same in another edition
abbrev renamed : ℕ → ℕ → Access → Access
renamed number edition a =
    record {
      width = a.width;
      handle = a.handle;
      address = in_edition number edition;
      lent = a.lent;
    }

abbrev plain : Access → ReadAnswer
plain a =
    read_answer
    (read_data a.width header records windows offsets (cells a.lent) 0 a.handle a.address)

abbrev fast : Access → FastRead
fast a =
    fast_read_data a.width header records windows offsets (cells a.lent) 0 a.handle
    a.address

-- writes of 89ABCDEFh
abbrev write : Access → WriteAnswer
write a =
    write_answer
    (write_data a.width header records windows offsets (cells a.lent) 0 a.handle a.address
    0x89ABCDEF)

-- the first byte, word and longword of the first window, and of the second
abbrev accepted : List Access
accepted = map (λ w. access w 1 0x80000000 44) (1 ∷ 2 ∷ 4 ∷ [])

abbrev accepted_second : List Access
accepted_second = map (λ w. access w 1 0x88000000 44) (1 ∷ 2 ∷ 4 ∷ [])

-- refused for the handle, the cells, the alignment, no window, a contested one, the width
abbrev refused : List Access
refused =
    access 1 2 0x80000000 44
    ∷ access 2 1 0x80000000 43
    ∷ access 4 1 0x80000002 44
    ∷ access 1 1 0x80000010 44
    ∷ access 2 1 0x90000000 44
    ∷ access 4 1 0xA0000000 44
    ∷ []

-- the same with an edition that is none
abbrev unknown : List Access
unknown = map (renamed 0x80000000 3) (accepted ++ refused)

-- calls of C by their edition and width, with a handle and the cells of this board
abbrev c_plain_in : ℕ → ℕ → ℕ → ReadAnswer
c_plain_in edition handle width =
    read_answer
    (c_read_data (width_from_c width) header records windows offsets (cells 44) 0 handle
    (in_edition 0x80000000 edition))

abbrev c_fast_in : ℕ → ℕ → ℕ → FastRead
c_fast_in edition handle width =
    c_fast_read_data (width_from_c width) header records windows offsets (cells 44) 0 handle
    (in_edition 0x80000000 edition)

abbrev c_write_in : ℕ → ℕ → ℕ → WriteAnswer
c_write_in edition handle width =
    write_answer
    (c_write_data (width_from_c width) header records windows offsets (cells 44) 0 handle
    (in_edition 0x80000000 edition) 0x89ABCDEF)

abbrev c_plain : ℕ → ℕ → ReadAnswer
c_plain = c_plain_in 2

abbrev c_fast : ℕ → ℕ → FastRead
c_fast = c_fast_in 2

abbrev c_write : ℕ → ℕ → WriteAnswer
c_write = c_write_in 2

-- editions with a handle and a width
abbrev some_editions : List ℕ
some_editions = 0 ∷ 1 ∷ 2 ∷ 3 ∷ 0x102 ∷ []

pub record DataAccessRows : Type 0 where
  -- in order 1 (P13)
  pub read_accepted : map plain accepted
      ≡ read (pos 0) 0x44 ∷ read (pos 0) 0x3344 ∷ read (pos 0) 0x11223344 ∷ []
  -- an accepted fast read equals the plain read
  pub fast_accepted : map fast accepted
      ≡ fast_read 0x44 false ∷ fast_read 0x3344 false ∷ fast_read 0x11223344 false ∷ []
  pub write_accepted : map write accepted
      ≡ written (pos 0) (cells_of (0x11 ∷ 0x22 ∷ 0x33 ∷ 0xEF ∷ []) p13 44)
      ∷ written (pos 0) (cells_of (0x11 ∷ 0x22 ∷ 0xCD ∷ 0xEF ∷ []) p13 44)
      ∷ written (pos 0) (cells_of (0x89 ∷ 0xAB ∷ 0xCD ∷ 0xEF ∷ []) p13 44)
      ∷ []
  -- in order 2 (P13)
  pub read_reversed : map plain accepted_second
      ≡ read (pos 0) 0x11 ∷ read (pos 0) 0x2211 ∷ read (pos 0) 0x44332211 ∷ []
  pub fast_reversed : map fast accepted_second
      ≡ fast_read 0x11 false ∷ fast_read 0x2211 false ∷ fast_read 0x44332211 false ∷ []
  pub write_reversed : map write accepted_second
      ≡ written (pos 0) (cells_of p13 (0xEF ∷ 0x22 ∷ 0x33 ∷ 0x44 ∷ []) 44)
      ∷ written (pos 0) (cells_of p13 (0xEF ∷ 0xCD ∷ 0x33 ∷ 0x44 ∷ []) 44)
      ∷ written (pos 0) (cells_of p13 (0xEF ∷ 0xCD ∷ 0xAB ∷ 0x89 ∷ []) 44)
      ∷ []
  -- a refused read returns 0
  pub read_refused : map plain refused
      ≡ read (neg_ℤ (pos 9)) 0
      ∷ read (neg_ℤ (pos 7)) 0
      ∷ read (neg_ℤ (pos 8)) 0
      ∷ read (neg_ℤ (pos 8)) 0
      ∷ read (neg_ℤ (pos 8)) 0
      ∷ read (neg_ℤ (pos 2)) 0
      ∷ []
  -- a refused fast read returns all ones of its width and a set fault flag
  pub fast_refused : map fast refused
      ≡ fast_read 0xFF true
      ∷ fast_read 0xFFFF true
      ∷ fast_read 0xFFFFFFFF true
      ∷ fast_read 0xFF true
      ∷ fast_read 0xFFFF true
      ∷ fast_read 0xFFFFFFFF true
      ∷ []
  -- a refused write changes nothing
  pub write_refused : map write refused
      ≡ written (neg_ℤ (pos 9)) (cells 44)
      ∷ written (neg_ℤ (pos 7)) (cells 43)
      ∷ written (neg_ℤ (pos 8)) (cells 44)
      ∷ written (neg_ℤ (pos 8)) (cells 44)
      ∷ written (neg_ℤ (pos 8)) (cells 44)
      ∷ written (neg_ℤ (pos 2)) (cells 44)
      ∷ []
  -- C's widths are 1, 2 and 4
  pub c_known : map (c_plain 1) (1 ∷ 2 ∷ 4 ∷ []) ≡ map plain accepted
  pub c_fast_known : map (c_fast 1) (1 ∷ 2 ∷ 4 ∷ []) ≡ map fast accepted
  pub c_write_known : map (c_write 1) (1 ∷ 2 ∷ 4 ∷ []) ≡ map write accepted
  -- any other is -8 before all else, also with a bad handle, which is -9 otherwise
  pub c_other : map (c_plain 1) (3 ∷ 0 ∷ 8 ∷ []) ≡ replicate 3 (read (neg_ℤ (pos 8)) 0)
  pub c_other_bad : map (c_plain 2) (3 ∷ 0 ∷ 8 ∷ 1 ∷ [])
      ≡ replicate 3 (read (neg_ℤ (pos 8)) 0) ++ (read (neg_ℤ (pos 9)) 0 ∷ [])
  pub c_fast_other : map (c_fast 1) (3 ∷ 0 ∷ 8 ∷ []) ≡ replicate 3 (fast_read 0xFFFFFFFF true)
  pub c_fast_other_bad : map (c_fast 2) (3 ∷ 0 ∷ 8 ∷ 1 ∷ [])
      ≡ replicate 3 (fast_read 0xFFFFFFFF true) ++ (fast_read 0xFF true ∷ [])
  pub c_write_other : map (c_write 1) (3 ∷ 0 ∷ 8 ∷ [])
      ≡ replicate 3 (written (neg_ℤ (pos 8)) (cells 44))
  pub c_write_other_bad : map (c_write 2) (3 ∷ 0 ∷ 8 ∷ 1 ∷ [])
      ≡ replicate 3 (written (neg_ℤ (pos 8)) (cells 44))
      ++ (written (neg_ℤ (pos 9)) (cells 44) ∷ [])
  -- in draft 1.9 the CPU address, which is the bus address plus F0000000h, reaches the same cells
  pub draft_read : map (λ a. plain (renamed 0x70000000 1 a)) accepted ≡ map plain accepted
  pub draft_fast : map (λ a. fast (renamed 0x70000000 1 a)) accepted ≡ map fast accepted
  pub draft_write : map (λ a. write (renamed 0x70000000 1 a)) accepted ≡ map write accepted
  -- the bus address is another one there
  pub draft_other : map (λ a. plain (renamed 0x80000000 1 a)) accepted
      ≡ read (neg_ℤ (pos 8)) 0 ∷ read (neg_ℤ (pos 8)) 0 ∷ read (neg_ℤ (pos 8)) 0 ∷ []
  -- an unknown edition is -2 whatever else is wrong, with 0, all ones of the width, and nothing
  -- written
  pub unknown_read : map plain unknown ≡ replicate 9 (read (neg_ℤ (pos 2)) 0)
  pub unknown_fast : map fast unknown
      ≡ fast_read 0xFF true
      ∷ fast_read 0xFFFF true
      ∷ fast_read 0xFFFFFFFF true
      ∷ fast_read 0xFF true
      ∷ fast_read 0xFFFF true
      ∷ fast_read 0xFFFFFFFF true
      ∷ fast_read 0xFF true
      ∷ fast_read 0xFFFF true
      ∷ fast_read 0xFFFFFFFF true
      ∷ []
  pub unknown_write : map write unknown
      ≡ map (λ (a : Access). written (neg_ℤ (pos 2)) (cells a.lent)) (accepted ++ refused)
  -- before a width of C that is none, and before the handle
  pub c_editions : map (λ e. c_plain_in e 1 3) some_editions
      ≡ map (λ n. read (neg_ℤ (pos n)) 0) (2 ∷ 8 ∷ 8 ∷ 2 ∷ 2 ∷ [])
  pub c_editions_bad : map (λ e. c_plain_in e 2 4) some_editions
      ≡ map (λ n. read (neg_ℤ (pos n)) 0) (2 ∷ 9 ∷ 9 ∷ 2 ∷ 2 ∷ [])
  pub c_fast_editions : map (λ e. c_fast_in e 1 3) some_editions ≡ replicate 5 (fast_read 0xFFFFFFFF true)
  pub c_fast_editions_bad : map (λ e. c_fast_in e 2 1) some_editions ≡ replicate 5 (fast_read 0xFF true)
  pub c_write_editions : map (λ e. c_write_in e 1 3) some_editions
      ≡ map (λ n. written (neg_ℤ (pos n)) (cells 44)) (2 ∷ 8 ∷ 8 ∷ 2 ∷ 2 ∷ [])
