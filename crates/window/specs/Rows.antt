-- Rows with literal numbers of document 01, section "Windows": when a window is open, its start,
-- length and end, and its kept number; and of "What the promises say" that k outside 2..16 is none.
use Rattle.std.specs.Prelude.{ℕ, Bool, true, false, [], ◌∷◌, map, ◌≡◌, Some, None}
use Rattle.window.specs.Window.{
  Window,
  end,
  register_space,
  start_of,
  is_window,
  window_length,
  is_open,
  window_of,
}
use Rattle.window.specs.Kept.{pack, unpack, code, begins, ends, is_end, unpacked}

-- a window as the program `windows` prints it: start, length, handle, base register, mark
abbrev pub mem : ℕ → ℕ → ℕ → ℕ → Bool → Window
mem start length handle base mark =
    record {
      space = 0;
      start = start;
      length = length;
      handle = handle;
      base = base;
      contested = mark;
    }

abbrev pub io : ℕ → ℕ → ℕ → ℕ → Bool → Window
io start length handle base mark =
    record {
      space = 1;
      start = start;
      length = length;
      handle = handle;
      base = base;
      contested = mark;
    }

abbrev pub clear : Bool
clear = false

abbrev pub contested : Bool
contested = true

pub record WindowRows : Type 0 where
  -- bit 0 set is I/O
  pub spaces : map register_space (0x80000000 ∷ 0x80000008 ∷ 0x00000101 ∷ []) ≡ 0 ∷ 0 ∷ 1 ∷ []
  -- command bit 1 opens memory, and no other does
  pub memory_command : map (is_open 10 0x80000000) (0 ∷ 1 ∷ 2 ∷ 3 ∷ 4 ∷ 0xFD ∷ [])
      ≡ false ∷ false ∷ true ∷ true ∷ false ∷ false ∷ []
  -- command bit 0 opens I/O, and no other does
  pub io_command : map (is_open 4 0x00000101) (0 ∷ 1 ∷ 2 ∷ 3 ∷ 4 ∷ 0xFE ∷ [])
      ≡ false ∷ true ∷ false ∷ true ∷ false ∷ false ∷ []
  -- a start of 0 is closed, though the register is not 0
  pub memory_at_zero : map (λ x. is_open 10 x 3) (0 ∷ 0x00000008 ∷ 0x000003FE ∷ 0x00000400 ∷ [])
      ≡ false ∷ false ∷ false ∷ true ∷ []
  pub io_at_zero : map (λ x. is_open 4 x 3) (0x00000001 ∷ 0x0000000F ∷ 0x00000011 ∷ [])
      ≡ false ∷ false ∷ true ∷ []
  -- the start is the register with bits below k cleared
  pub starts : map (λ k. start_of k 0x1234FFFF) (2 ∷ 4 ∷ 10 ∷ 16 ∷ [])
      ≡ 0x1234FFFC ∷ 0x1234FFF0 ∷ 0x1234FC00 ∷ 0x12340000 ∷ []
  pub starts_of10 : map (start_of 10) (0x800003FF ∷ 0x80000400 ∷ 0x800007FF ∷ 0xFFFFFFFF ∷ [])
      ≡ 0x80000000 ∷ 0x80000400 ∷ 0x80000400 ∷ 0xFFFFFC00 ∷ []
  -- k outside 2..16 is no window, and is not open
  pub exponents : map is_window (0 ∷ 1 ∷ 2 ∷ 16 ∷ 17 ∷ 255 ∷ [])
      ≡ false ∷ false ∷ true ∷ true ∷ false ∷ false ∷ []
  pub open_exponents : map (λ k. is_open k 0x80000000 2) (0 ∷ 1 ∷ 2 ∷ 16 ∷ 17 ∷ [])
      ≡ false ∷ false ∷ true ∷ true ∷ false ∷ []
  -- the length is 2^k
  pub lengths : map window_length (0 ∷ 1 ∷ 2 ∷ 4 ∷ 10 ∷ 16 ∷ 17 ∷ [])
      ≡ 0 ∷ 0 ∷ 4 ∷ 16 ∷ 1024 ∷ 65536 ∷ 0 ∷ []
  -- a window decoded
  pub memory_window : window_of 10 0x80000008 1 0 ≡ mem 0x80000000 0x400 1 0 clear
  pub io_window : window_of 4 0x00000101 2 1 ≡ io 0x00000100 0x10 2 1 clear
  -- its end may be 2^32
  pub window_ends : map (λ x. end (window_of 10 x 1 0)) (0x80000000 ∷ 0xFFFFF800 ∷ 0xFFFFFC00 ∷ [])
      ≡ 0x80000400 ∷ 0xFFFFFC00 ∷ 0x100000000 ∷ []
  -- a window in one number, and read back: the mark is bit 0, the length begins at bit 1, the base
  -- register at bit 18, the handle at bit 21, the start at bit 26, the space at bit 58
  pub packed_memory : pack (mem 0x80000000 0x400 1 0 clear) ≡ 0x0200000000200800
  pub unpacked_memory : unpack 0x0200000000200800 ≡ mem 0x80000000 0x400 1 0 clear
  pub packed_io : pack (io 0xFFFF0000 0x10000 16 5 contested) ≡ 0x07FFFC0002160001
  pub unpacked_io : unpack 0x07FFFC0002160001 ≡ io 0xFFFF0000 0x10000 16 5 contested
  -- the number of a window, if there is one
  pub codes : map code ([] ∷ (mem 0x80000000 0x400 1 0 clear ∷ []) ∷ [])
      ≡ None ∷ Some 0x0200000000200800 ∷ []
  -- where they begin and end, I/O addresses after memory addresses; an end of 2^32 is not 0
  pub kept_begins : map begins (0x0200000000200800 ∷ 0x03FFFFF000200800 ∷ 0x07FFFC0002160001 ∷ [])
      ≡ 0x80000000 ∷ 0xFFFFFC00 ∷ 0x1FFFF0000 ∷ []
  pub kept_ends : map ends (0x0200000000200800 ∷ 0x03FFFFF000200800 ∷ 0x07FFFC0002160001 ∷ [])
      ≡ 0x80000400 ∷ 0x100000000 ∷ 0x200000000 ∷ []
  -- a number of length 0 ends the kept list, one of length 1 does not
  pub kept_end : map is_end (0 ∷ 1 ∷ 2 ∷ 3 ∷ 0x0200000000200000 ∷ [])
      ≡ true ∷ true ∷ false ∷ false ∷ true ∷ []
  pub kept_windows : unpacked (0x0200000000200800 ∷ 2 ∷ 0 ∷ 0x07FFFC0002160001 ∷ [])
      ≡ mem 0x80000000 0x400 1 0 clear ∷ mem 0 1 0 0 clear ∷ []
