-- Rows with literal numbers of document 01: "The modelled board" (handles, lengths), "Board image"
-- (where the parts of a record stand), "Numbers handed back", "Registers" and "Windows" (where a
-- function's registers stand), "Data and byte order" (the two kinds of address), and of the numbers
-- that C asks with.
use Rattle.std.specs.Prelude.{◌≡◌, ℕ, ◌+◌, ◌-◌, true, false, List, [], ◌∷◌, ◌++◌, map, pos, neg_ℤ, Ok, Err, Some, None}
use Rattle.numbers.specs.Tables.{table}
use Rattle.numbers.specs.declared.number.Width.TheVariants.{Byte, Word, Long}
use Rattle.board.specs.declared.space.Space.TheVariants.{Memory, Io}
use Rattle.board.specs.declared.status.CallRefusal.TheVariants.{BadHandle}
use Rattle.board.specs.Addresses.{bus, cpu, bus_number, cpu_number, cpu_address, bus_address}
use Rattle.board.specs.FromC.{width_from_c, space_from_c}
use Rattle.board.specs.Handles.{header_of, function_count, is_handle, place_of_handle}
use Rattle.board.specs.Layout.{
  functions_max,
  bases,
  windows_max,
  record_size,
  registers_each,
  header_size,
  hook_size,
  mark_size,
  record_byte,
  mask_byte,
  exponent,
  byte_order,
  widths,
  offset,
  dma_offset,
  register_byte,
  command,
  base_register,
}
use Rattle.board.specs.Parts.{
  Parts,
  parts,
  with_registers,
  with_cells,
  with_hooks,
  with_used,
}
use Rattle.board.specs.Reads.{value_of, accepted_fast, refused_fast, fast_of}
use Rattle.board.specs.Spaces.{space_number}
use Rattle.board.specs.Statuses.{
  number_of,
  successful,
  func_not_supported,
  bad_vendor_id,
  device_not_found,
  bad_register_number,
  set_failed,
  buffer_too_small,
  general_error,
  bad_handle,
}

-- a header with a count, whose other numbers would be read as other counts
abbrev counting : ℕ → List ℕ
counting count = count ∷ 5 ∷ 6 ∷ 7 ∷ []

-- a record: reset values 0 to 255, masks 255 to 0, six entries of 4 bytes from a number on, and
-- after them the 4 bytes of the offset and the 4 of the dmaoffset
abbrev record_from : ℕ → List ℕ
record_from first =
    table 256 (λ i. i)
    ++ (table 256 (λ i. 255 - i) ++ (table 24 (λ i. first + i) ++ table 8 (λ i. first + 24 + i)))

-- two records: entries 40h to 57h, offset 58h to 5Bh, dmaoffset 5Ch to 5Fh; the same from 80h on
abbrev two_records : List ℕ
two_records = record_from 0x40 ++ record_from 0x80

-- the registers of two functions: 0 to 255, and 255 to 0
abbrev two_registers : List ℕ
two_registers = table 256 (λ i. i) ++ table 256 (λ i. 255 - i)

-- lent parts, each of a number of its own
abbrev eight_parts : Parts
eight_parts =
    parts (1 ∷ []) (2 ∷ []) (3 ∷ []) (4 ∷ [])
    (5 ∷ []) (6 ∷ []) (7 ∷ []) (8 ∷ [])

pub record BoardRows : Type 0 where
  -- the count stands first in the header; above 16 it is read as 16
  pub headers : header_of 2 ≡ 2 ∷ 0 ∷ 0 ∷ 0 ∷ []
  pub counts :
      map (λ n. function_count (counting n)) (0 ∷ 1 ∷ 15 ∷ 16 ∷ 17 ∷ 0xFFFFFFFF ∷ [])
      ≡ 0 ∷ 1 ∷ 15 ∷ 16 ∷ 16 ∷ 16 ∷ []
  -- handles are 1 to the count, on boards of 0, 2, 16 and 17 functions
  pub no_handles : map (is_handle (counting 0)) (0 ∷ 1 ∷ []) ≡ false ∷ false ∷ []
  pub handles :
      map (is_handle (counting 2)) (0 ∷ 1 ∷ 2 ∷ 3 ∷ 0xFFFFFFFF ∷ [])
      ≡ false ∷ true ∷ true ∷ false ∷ false ∷ []
  pub handles_of16 : map (is_handle (counting 16)) (16 ∷ 17 ∷ []) ≡ true ∷ false ∷ []
  pub handles_of17 : map (is_handle (counting 17)) (16 ∷ 17 ∷ []) ≡ true ∷ false ∷ []
  -- the place is one below the handle; of 0, which is no handle, 4,294,967,295
  pub places :
      map place_of_handle (0 ∷ 1 ∷ 2 ∷ 16 ∷ 0xFFFFFFFF ∷ [])
      ≡ 4294967295 ∷ 0 ∷ 1 ∷ 15 ∷ 0xFFFFFFFE ∷ []
  -- 16 functions, 6 base registers, 96 windows, 544 bytes of a record, 256 registers; numbers of
  -- the header, of a hook and of a used mark
  pub lengths :
      functions_max
      ∷ bases
      ∷ windows_max
      ∷ record_size
      ∷ registers_each
      ∷ header_size
      ∷ hook_size
      ∷ mark_size
      ∷ []
      ≡ 16 ∷ 6 ∷ 96 ∷ 544 ∷ 256 ∷ 4 ∷ 3 ∷ 2 ∷ []
  -- the lent parts by their names, and those that a call may leave with others
  pub parts_named :
      eight_parts
      ≡ record {
        header = 1 ∷ [];
        records = 2 ∷ [];
        registers = 3 ∷ [];
        windows = 4 ∷ [];
        cell_offsets = 5 ∷ [];
        hooks = 6 ∷ [];
        used = 7 ∷ [];
        cells = 8 ∷ [];
      }
  pub parts_left :
      with_registers (30 ∷ []) (40 ∷ []) eight_parts
      ∷ with_cells (80 ∷ []) eight_parts
      ∷ with_hooks (60 ∷ []) eight_parts
      ∷ with_used (70 ∷ []) eight_parts
      ∷ []
      ≡ parts (1 ∷ []) (2 ∷ []) (30 ∷ []) (40 ∷ []) (5 ∷ []) (6 ∷ []) (7 ∷ []) (8 ∷ [])
      ∷ parts (1 ∷ []) (2 ∷ []) (3 ∷ []) (4 ∷ []) (5 ∷ []) (6 ∷ []) (7 ∷ []) (80 ∷ [])
      ∷ parts (1 ∷ []) (2 ∷ []) (3 ∷ []) (4 ∷ []) (5 ∷ []) (60 ∷ []) (7 ∷ []) (8 ∷ [])
      ∷ parts (1 ∷ []) (2 ∷ []) (3 ∷ []) (4 ∷ []) (5 ∷ []) (6 ∷ []) (70 ∷ []) (8 ∷ [])
      ∷ []
  -- 256 reset values, 256 masks, six entries of 4 bytes, offset, dmaoffset: of the second record
  pub record_bytes :
      map (record_byte two_records 1) (0 ∷ 1 ∷ 255 ∷ 256 ∷ 257 ∷ 511 ∷ 512 ∷ 535 ∷ 536 ∷ 543 ∷ [])
      ≡ 0 ∷ 1 ∷ 255 ∷ 255 ∷ 254 ∷ 0 ∷ 0x80 ∷ 0x97 ∷ 0x98 ∷ 0x9F ∷ []
  pub masks : map (mask_byte two_records 1) (0x00 ∷ 0x04 ∷ 0xFF ∷ []) ≡ 0xFF ∷ 0xFB ∷ 0x00 ∷ []
  -- an entry: length exponent, byte order, widths; of base registers 0, 1 and 5
  pub exponents : map (exponent two_records 1) (0 ∷ 1 ∷ 5 ∷ []) ≡ 0x80 ∷ 0x84 ∷ 0x94 ∷ []
  pub orders : map (byte_order two_records 1) (0 ∷ 1 ∷ 5 ∷ []) ≡ 0x81 ∷ 0x85 ∷ 0x95 ∷ []
  pub width_bits : map (widths two_records 1) (0 ∷ 1 ∷ 5 ∷ []) ≡ 0x82 ∷ 0x86 ∷ 0x96 ∷ []
  -- big-endian, of both records
  pub offsets : map (offset two_records) (0 ∷ 1 ∷ []) ≡ 0x58595A5B ∷ 0x98999A9B ∷ []
  pub dma_offsets : map (dma_offset two_records) (0 ∷ 1 ∷ []) ≡ 0x5C5D5E5F ∷ 0x9C9D9E9F ∷ []
  -- the numbers handed back, in document 01's order, with request E1's -3
  pub numbers :
      map number_of
      (successful
      ∷ func_not_supported
      ∷ bad_vendor_id
      ∷ device_not_found
      ∷ bad_register_number
      ∷ set_failed
      ∷ buffer_too_small
      ∷ general_error
      ∷ bad_handle
      ∷ [])
      ≡ pos 0
      ∷ neg_ℤ (pos 2)
      ∷ neg_ℤ (pos 3)
      ∷ neg_ℤ (pos 4)
      ∷ neg_ℤ (pos 5)
      ∷ neg_ℤ (pos 6)
      ∷ neg_ℤ (pos 7)
      ∷ neg_ℤ (pos 8)
      ∷ neg_ℤ (pos 9)
      ∷ []
  -- a refused read returns 0; a refused fast read all ones of its width and a set fault flag
  pub reads : map value_of (Ok 7 ∷ Err BadHandle ∷ []) ≡ 7 ∷ 0 ∷ []
  pub read_numbers : map (number_of {A = ℕ}) (Ok 7 ∷ Err BadHandle ∷ []) ≡ pos 0 ∷ neg_ℤ (pos 9) ∷ []
  pub accepted_fast_reads : accepted_fast 7 ≡ record { value = 7; fault = false }
  pub fast_fillers :
      map refused_fast (1 ∷ 2 ∷ 4 ∷ [])
      ≡ record { value = 0xFF; fault = true }
      ∷ record { value = 0xFFFF; fault = true }
      ∷ record { value = 0xFFFFFFFF; fault = true }
      ∷ []
  pub fast_reads :
      map (fast_of 2) (Ok 7 ∷ Err BadHandle ∷ [])
      ≡ record { value = 7; fault = false } ∷ record { value = 0xFFFF; fault = true } ∷ []
  -- 256 registers of each function; the command is 04h, base register b stands at 10h + 4 b, least
  -- byte first
  pub register_bytes :
      map (register_byte two_registers 1) (0x00 ∷ 0x10 ∷ 0xFF ∷ []) ≡ 0xFF ∷ 0xEF ∷ 0x00 ∷ []
  pub commands :
      command (register_byte two_registers 0) ∷ command (register_byte two_registers 1) ∷ []
      ≡ 0x04 ∷ 0xFB ∷ []
  pub base_registers :
      map (base_register (register_byte two_registers 0)) (0 ∷ 1 ∷ 5 ∷ [])
      ≡ 0x13121110 ∷ 0x17161514 ∷ 0x27262524 ∷ []
  pub base_registers_of1 : base_register (register_byte two_registers 1) 0 ≡ 0xECEDEEEF
  -- memory and I/O
  pub spaces : space_number Memory ∷ space_number Io ∷ [] ≡ 0 ∷ 1 ∷ []
  -- the CPU address is the PCI address plus the offset, modulo 2^32: with offset F0000000h, on both
  -- sides of the wrap, and with one that does not wrap; the way back takes it off
  pub cpu_addresses :
      map (cpu_address 0xF0000000) (bus 0 ∷ bus 0x0FFFFFFF ∷ bus 0x10000000 ∷ bus 0x20000000 ∷ [])
      ≡ cpu 0xF0000000 ∷ cpu 0xFFFFFFFF ∷ cpu 0 ∷ cpu 0x10000000 ∷ []
  pub bus_addresses :
      map (bus_address 0xF0000000)
      (cpu 0xF0000000 ∷ cpu 0xFFFFFFFF ∷ cpu 0 ∷ cpu 0x10000000 ∷ [])
      ≡ bus 0 ∷ bus 0x0FFFFFFF ∷ bus 0x10000000 ∷ bus 0x20000000 ∷ []
  pub cpu_address_beyond : cpu_address 0x100 (bus 0x20) ≡ cpu 0x120
  pub bus_address_below : bus_address 0x100 (cpu 0x120) ≡ bus 0x20
  pub address_numbers : bus_number (bus 5) ∷ cpu_number (cpu 6) ∷ [] ≡ 5 ∷ 6 ∷ []
  -- C's widths are 1, 2 and 4 alone; its space 0 is memory, every other number I/O
  pub widths_from_c :
      map width_from_c (0 ∷ 1 ∷ 2 ∷ 3 ∷ 4 ∷ 5 ∷ 8 ∷ [])
      ≡ None ∷ Some Byte ∷ Some Word ∷ None ∷ Some Long ∷ None ∷ None ∷ []
  pub spaces_from_c : map space_from_c (0 ∷ 1 ∷ 2 ∷ 256 ∷ []) ≡ Memory ∷ Io ∷ Io ∷ Io ∷ []
