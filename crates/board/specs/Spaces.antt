-- The two address spaces: document 01, "Windows".
use Rattle.std.specs.Prelude.{ℕ}
use Rattle.board.specs.declared.space.Space.{Space}
use Rattle.board.specs.declared.space.Space.TheVariants.{Memory, Io}

abbrev pub space_number : Space → ℕ
space_number Memory = 0
space_number Io = 1
