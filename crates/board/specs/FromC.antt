-- A width and a space of the numbers that C hands over: document 01, "What the promises say", last
-- sentence.
use Rattle.std.specs.Prelude.{ℕ, cond, ◌==◌, Option, Some, None}
use Rattle.numbers.specs.declared.number.Width.{Width}
use Rattle.numbers.specs.declared.number.Width.TheVariants.{Byte, Word, Long}
use Rattle.board.specs.declared.space.Space.{Space}
use Rattle.board.specs.declared.space.Space.TheVariants.{Memory, Io}

-- a width is 1, 2 or 4; every other number is none
abbrev pub width_from_c : ℕ → Option Width
width_from_c w =
    cond (w == 1) (Some Byte)
    (cond (w == 2) (Some Word)
    (cond (w == 4) (Some Long)
    None))

-- 0 is memory, every other number I/O
abbrev pub space_from_c : ℕ → Space
space_from_c io = cond (io == 0) Memory Io
