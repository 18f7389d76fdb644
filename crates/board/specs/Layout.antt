-- Where things stand in the lent parts: document 01, "The modelled board" and "Board image". One
-- name for each length and each position.
use Rattle.std.specs.Prelude.{ℕ, ◌+◌, ◌*◌, List, slice_index}
use Rattle.numbers.specs.Numbers.{little, big}

-- functions of a board at most, base registers of a function, windows of a board at most
abbrev pub functions_max : ℕ
functions_max = 16

abbrev pub bases : ℕ
bases = 6

abbrev pub windows_max : ℕ
windows_max = 96

-- bytes of a record as the lent records keep it, and where its parts begin after the 256 reset
-- values
abbrev pub record_size : ℕ
record_size = 544

abbrev pub masks_at : ℕ
masks_at = 256

abbrev pub entries_at : ℕ
entries_at = 512

abbrev pub offset_at : ℕ
offset_at = 536

abbrev pub dma_offset_at : ℕ
dma_offset_at = 540

-- bytes of a window entry; registers of a function; numbers of the header, of a hook and of a used
-- mark
abbrev pub entry_size : ℕ
entry_size = 4

abbrev pub registers_each : ℕ
registers_each = 256

abbrev pub header_size : ℕ
header_size = 4

abbrev pub hook_size : ℕ
hook_size = 3

abbrev pub mark_size : ℕ
mark_size = 2

-- byte `at` of the record of the function at place i
abbrev pub record_byte : List ℕ → ℕ → ℕ → ℕ
record_byte records i at = slice_index records (record_size * i + at)

abbrev pub mask_byte : List ℕ → ℕ → ℕ → ℕ
mask_byte records i register = record_byte records i (masks_at + register)

-- a field of the entry of base register b: length exponent k, byte order, widths
abbrev pub entry_byte : List ℕ → ℕ → ℕ → ℕ → ℕ
entry_byte records i b field = record_byte records i (entries_at + entry_size * b + field)

abbrev pub exponent : List ℕ → ℕ → ℕ → ℕ
exponent records i b = entry_byte records i b 0

abbrev pub byte_order : List ℕ → ℕ → ℕ → ℕ
byte_order records i b = entry_byte records i b 1

abbrev pub widths : List ℕ → ℕ → ℕ → ℕ
widths records i b = entry_byte records i b 2

-- a record's numbers are big-endian
abbrev pub offset : List ℕ → ℕ → ℕ
offset records i = big 4 (record_byte records i) offset_at

abbrev pub dma_offset : List ℕ → ℕ → ℕ
dma_offset records i = big 4 (record_byte records i) dma_offset_at

-- register `at` of the function at place i
abbrev pub register_byte : List ℕ → ℕ → ℕ → ℕ
register_byte registers i at = slice_index registers (registers_each * i + at)

-- of a function's registers r: the command byte, and base register b, little-endian
abbrev pub command : (ℕ → ℕ) → ℕ
command r = r 0x04

abbrev pub base_register : (ℕ → ℕ) → ℕ → ℕ
base_register r b = little 4 r (0x10 + 4 * b)
