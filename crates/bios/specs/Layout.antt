-- The bytes of the lent parts, as C counts them: document 01, "The modelled board".
use Rattle.std.specs.Prelude.{ℕ, ◌+◌, ◌*◌, List, [], ◌∷◌, get_or}
use Rattle.board.specs.Layout.{
  functions_max,
  windows_max,
  record_size,
  registers_each,
  header_size,
  hook_size,
  mark_size,
}

-- header, records, registers, windows, cell offsets, hooks, used marks: numbers of 4 or 8 bytes,
-- and bytes
abbrev pub part_sizes : List ℕ
part_sizes =
    4 * header_size
    ∷ functions_max * record_size
    ∷ functions_max * registers_each
    ∷ 8 * windows_max
    ∷ 4 * (windows_max + 1)
    ∷ 4 * (functions_max * hook_size)
    ∷ 4 * (functions_max * mark_size)
    ∷ []

abbrev pub part_bytes : ℕ → ℕ
part_bytes part = get_or part_sizes part 0
