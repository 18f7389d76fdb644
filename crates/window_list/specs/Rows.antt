-- Rows with literal numbers of document 01, section "Windows": when a window is contested, the
-- order of the list, and the lists of small boards.
use Rattle.std.specs.Prelude.{ℕ, true, false, List, [], ◌∷◌, ◌++◌, map, ◌≡◌, get_or, replicate}
use Rattle.window.specs.Window.{Window}
use Rattle.window.specs.Rows.{mem, io, clear, contested}
use Rattle.window_list.specs.Windows.{sorted, contends, with_marks, list_of}
use Rattle.window_list.specs.Kept.{kept_list}

-- a board's entries or registers by place and position; 0 where none is named
abbrev board : List (List ℕ) → ℕ → ℕ → ℕ
board l i at = get_or (get_or l i []) at 0

-- registers with a command byte at 04h and the bytes of base registers from 10h on
abbrev registers : ℕ → List ℕ → List ℕ
registers command bases = replicate 4 0 ++ (command ∷ replicate 11 0 ++ bases)

-- B1's length exponents
abbrev exponents : ℕ → ℕ → ℕ
exponents = board ((10 ∷ []) ∷ (10 ∷ 4 ∷ []) ∷ [])

-- B1's registers, with handle 2's command byte and the second byte of its base register 0
abbrev b1 : ℕ → ℕ → ℕ → ℕ → ℕ
b1 command second =
    board (
    registers 3 (0x00 ∷ 0x00 ∷ 0x00 ∷ 0x80 ∷ [])
    ∷ registers command (
    0x00 ∷ second ∷ 0x00 ∷ 0x80
    ∷ 0x01 ∷ 0x01 ∷ 0x00 ∷ 0x00 ∷ []
    )
    ∷ []
    )

-- one function: memory at 80000050h, 80000040h .. 80000000h, each of 16 bytes
abbrev falling : ℕ → ℕ → ℕ
falling =
    board (
    registers 2 (
    0x50 ∷ 0x00 ∷ 0x00 ∷ 0x80
    ∷ 0x40 ∷ 0x00 ∷ 0x00 ∷ 0x80
    ∷ 0x30 ∷ 0x00 ∷ 0x00 ∷ 0x80
    ∷ 0x20 ∷ 0x00 ∷ 0x00 ∷ 0x80
    ∷ 0x10 ∷ 0x00 ∷ 0x00 ∷ 0x80
    ∷ 0x00 ∷ 0x00 ∷ 0x00 ∷ 0x80 ∷ []
    )
    ∷ []
    )

-- memory of 16 bytes, unmarked: start, handle
abbrev short : ℕ → ℕ → Window
short start handle = mem start 16 handle 0 clear

pub record WindowListRows : Type 0 where
  -- contested by one shared address, and not by touching
  pub shared_address : map (λ s. contends (short 0x80000000 1) (short s 2))
      (0x7FFFFFF0 ∷ 0x7FFFFFF1 ∷ 0x80000000 ∷ 0x8000000F ∷ 0x80000010 ∷ [])
      ≡ false ∷ true ∷ true ∷ true ∷ false ∷ []
  -- by another window of any function, its own included, and not by itself
  pub any_function : map (contends (short 0x80000000 1))
      (mem 0x80000000 16 1 1 clear ∷ short 0x80000000 2 ∷ short 0x80000000 1 ∷ [])
      ≡ true ∷ true ∷ false ∷ []
  -- of the same space
  pub same_space : map (contends (io 0x00000100 16 1 0 clear))
      (mem 0x00000100 16 2 0 clear ∷ io 0x00000100 16 2 0 clear ∷ [])
      ≡ false ∷ true ∷ []
  -- with an end of 2^32
  pub end_of_space : map (λ s. contends (short 0xFFFFFFF0 1) (short s 2))
      (0xFFFFFFE0 ∷ 0xFFFFFFE1 ∷ 0xFFFFFFF0 ∷ 0x00000000 ∷ [])
      ≡ false ∷ true ∷ true ∷ false ∷ []
  -- both are marked, and a mark that holds no longer goes
  pub both_marked : with_marks (short 0x80000000 1 ∷ short 0x8000000F 2 ∷ [])
      ≡ mem 0x80000000 16 1 0 contested ∷ mem 0x8000000F 16 2 0 contested ∷ []
  pub none_marked : with_marks
      (mem 0x80000000 16 1 0 contested ∷ mem 0x80000010 16 2 0 contested ∷ [])
      ≡ mem 0x80000000 16 1 0 clear ∷ mem 0x80000010 16 2 0 clear ∷ []
  -- a window over two others, which do not share an address with each other
  pub middle : with_marks (short 0x80000000 1 ∷ short 0x8000000C 2 ∷ short 0x80000018 3 ∷ [])
      ≡ mem 0x80000000 16 1 0 contested
      ∷ mem 0x8000000C 16 2 0 contested
      ∷ mem 0x80000018 16 3 0 contested
      ∷ []
  pub without_middle : with_marks (short 0x80000000 1 ∷ short 0x80000018 3 ∷ [])
      ≡ mem 0x80000000 16 1 0 clear ∷ mem 0x80000018 16 3 0 clear ∷ []
  -- two windows that end at 2^32, and one that touches them
  pub marked_at_the_end : with_marks
      (short 0xFFFFFFE0 1 ∷ short 0xFFFFFFF0 2 ∷ short 0xFFFFFFF0 3 ∷ [])
      ≡ mem 0xFFFFFFE0 16 1 0 clear
      ∷ mem 0xFFFFFFF0 16 2 0 contested
      ∷ mem 0xFFFFFFF0 16 3 0 contested
      ∷ []
  -- memory first, then by start, handle, base register
  pub in_order : sorted (
      io 0x00000100 16 1 0 clear
      ∷ mem 0x80000010 16 1 0 clear
      ∷ mem 0x80000000 16 2 1 clear
      ∷ io 0x00000020 16 3 0 clear
      ∷ mem 0x80000000 16 2 0 clear
      ∷ mem 0x80000000 16 1 5 clear
      ∷ []
      )
      ≡ mem 0x80000000 16 1 5 clear
      ∷ mem 0x80000000 16 2 0 clear
      ∷ mem 0x80000000 16 2 1 clear
      ∷ mem 0x80000010 16 1 0 clear
      ∷ io 0x00000020 16 3 0 clear
      ∷ io 0x00000100 16 1 0 clear
      ∷ []
  -- the list of B1; of its first function alone
  pub list_of_b1 : list_of 2 exponents (b1 3 0x04)
      ≡ mem 0x80000000 0x400 1 0 clear
      ∷ mem 0x80000400 0x400 2 0 clear
      ∷ io 0x00000100 0x10 2 1 clear
      ∷ []
  pub first_function : list_of 1 exponents (b1 3 0x04) ≡ mem 0x80000000 0x400 1 0 clear ∷ []
  -- 80000000h to 10h of handle 2: both memory windows contested
  pub list_of_p11 : list_of 2 exponents (b1 3 0x00)
      ≡ mem 0x80000000 0x400 1 0 contested
      ∷ mem 0x80000000 0x400 2 0 contested
      ∷ io 0x00000100 0x10 2 1 clear
      ∷ []
  -- a closed window is not listed and contests none: 01h, 02h and 00h to 04h of handle 2
  pub memory_closed : list_of 2 exponents (b1 1 0x00)
      ≡ mem 0x80000000 0x400 1 0 clear ∷ io 0x00000100 0x10 2 1 clear ∷ []
  pub io_closed : list_of 2 exponents (b1 2 0x04)
      ≡ mem 0x80000000 0x400 1 0 clear ∷ mem 0x80000400 0x400 2 0 clear ∷ []
  pub both_closed : list_of 2 exponents (b1 0 0x00) ≡ mem 0x80000000 0x400 1 0 clear ∷ []
  -- six base registers from 10h on
  pub six_bases : list_of 1 (λ i b. 4) falling
      ≡ mem 0x80000000 16 1 5 clear
      ∷ mem 0x80000010 16 1 4 clear
      ∷ mem 0x80000020 16 1 3 clear
      ∷ mem 0x80000030 16 1 2 clear
      ∷ mem 0x80000040 16 1 1 clear
      ∷ mem 0x80000050 16 1 0 clear
      ∷ []
  -- kept in 96 numbers: those of the windows, then zeros
  pub kept : kept_list
      (mem 0x80000000 0x400 1 0 clear ∷ io 0xFFFF0000 0x10000 16 5 contested ∷ [])
      ≡ 0x0200000000200800 ∷ 0x07FFFC0002160001 ∷ replicate 94 0
