-- Rows with literal numbers of document 01, "Registers", "Windows" and "Numbers handed back", and of
-- document 02, E2: bytes written through their masks, status, the checks, and the writes after which
-- the window list is worked out anew.
use Rattle.std.specs.Prelude.{ℕ, true, false, List, [], ◌∷◌, ◌++◌, map, ◌≡◌, ℤ, pos, neg_ℤ, replicate}
use Rattle.board.specs.Statuses.{number_of}
use Rattle.config_masked.specs.Masked.{written}
use Rattle.config_write.specs.Write.{
  clear_mask,
  moves_windows,
  ConfigWritten,
  write_config,
}

-- byte 5Ah after a write of C3h at a register, through masks 00h, FFh, 0Fh and F0h
abbrev through_masks : ℕ → List ℕ
through_masks register =
    map (λ mask. written mask (clear_mask register mask) 0x5A 0xC3)
    (0x00 ∷ 0xFF ∷ 0x0F ∷ 0xF0 ∷ [])

-- boards of so many functions, of which handle 2 has four bytes from 40h on with the same masks,
-- each byte its own; and a kept list of one number
abbrev functions : ℕ → List ℕ
functions count = count ∷ 0 ∷ 0 ∷ 0 ∷ []

abbrev records : List ℕ
records = replicate 864 0 ++ (0x00 ∷ 0xFF ∷ 0x0F ∷ 0xF0 ∷ [])

abbrev registers : List ℕ → List ℕ
registers bytes = replicate 320 0 ++ bytes

abbrev before : List ℕ
before = 0x11 ∷ 0x22 ∷ 0x33 ∷ 0x44 ∷ []

-- what a write leaves: its number, the registers and the kept list
abbrev left : ConfigWritten → ℤ × (List ℕ × List ℕ)
left after = (number_of after.status, (after.registers, after.windows))

-- a write on a board of two; the number and the four bytes that it leaves: 0 and some, or -n and
-- the old ones
abbrev write : ℕ → ℕ → ℕ → ℕ → ℤ × (List ℕ × List ℕ)
write w handle register value =
    left (write_config w (functions 2) records (registers before) (7 ∷ []) handle register value)

abbrev leaves : List ℕ → ℤ × (List ℕ × List ℕ)
leaves bytes = (pos 0, (registers bytes, 7 ∷ []))

abbrev refuses : ℕ → ℤ × (List ℕ × List ℕ)
refuses n = (neg_ℤ (pos n), (registers before, 7 ∷ []))

-- four bytes from 04h on of handle 2, command and status; their masks are 03h, 05h, 30h and F9h
abbrev from_command : List ℕ → List ℕ
from_command bytes = replicate 260 0 ++ bytes

-- the registers that a write leaves where they are 03h, 04h, B0h and F9h
abbrev status_after : ℕ → ℕ → ℕ → List ℕ
status_after w register value =
    (write_config w (functions 2) (replicate 804 0 ++ (0x03 ∷ 0x05 ∷ 0x30 ∷ 0xF9 ∷ []))
    (from_command (0x03 ∷ 0x04 ∷ 0xB0 ∷ 0xF9 ∷ [])) (7 ∷ []) 2 register value
    ).registers

pub record ConfigWriteRows : Type 0 where
  -- a byte takes the written bits where its mask has 1 and keeps the rest
  pub masked : through_masks 0x40 ≡ 0x5A ∷ 0xC3 ∷ 0x53 ∷ 0xCA ∷ []
  -- command included, and what follows status
  pub command : map through_masks (0x04 ∷ 0x05 ∷ [])
      ≡ (0x5A ∷ 0xC3 ∷ 0x53 ∷ 0xCA ∷ []) ∷ (0x5A ∷ 0xC3 ∷ 0x53 ∷ 0xCA ∷ []) ∷ []
  pub past_status : through_masks 0x08 ≡ 0x5A ∷ 0xC3 ∷ 0x53 ∷ 0xCA ∷ []
  -- in status a masked bit becomes old AND NOT written
  pub status : map through_masks (0x06 ∷ 0x07 ∷ [])
      ≡ (0x5A ∷ 0x18 ∷ 0x58 ∷ 0x1A ∷ []) ∷ (0x5A ∷ 0x18 ∷ 0x58 ∷ 0x1A ∷ []) ∷ []
  pub status_word : status_after 2 0x06 0x2010 ≡ from_command (0x03 ∷ 0x04 ∷ 0xA0 ∷ 0xD9 ∷ [])
  pub status_zero : status_after 2 0x06 0x0000 ≡ from_command (0x03 ∷ 0x04 ∷ 0xB0 ∷ 0xF9 ∷ [])
  pub status_bytes : map (λ register. status_after 1 register 0xFF) (0x05 ∷ 0x06 ∷ 0x07 ∷ [])
      ≡ from_command (0x03 ∷ 0x05 ∷ 0xB0 ∷ 0xF9 ∷ [])
      ∷ from_command (0x03 ∷ 0x04 ∷ 0x80 ∷ 0xF9 ∷ [])
      ∷ from_command (0x03 ∷ 0x04 ∷ 0xB0 ∷ 0x00 ∷ []) ∷ []
  -- a longword at 04h writes command and clears status
  pub command_and_status : status_after 4 0x04 0xFFFF0003
      ≡ from_command (0x03 ∷ 0x00 ∷ 0x80 ∷ 0x00 ∷ [])
  -- little-endian over 1, 2 or 4 bytes, each addressed byte through its own mask
  pub byte : write 1 2 0x41 0xC3 ≡ leaves (0x11 ∷ 0xC3 ∷ 0x33 ∷ 0x44 ∷ [])
  pub word : write 2 2 0x42 0xA1B2 ≡ leaves (0x11 ∷ 0x22 ∷ 0x32 ∷ 0xA4 ∷ [])
  pub longword : write 4 2 0x40 0xA1B2C3D4 ≡ leaves (0x11 ∷ 0xC3 ∷ 0x32 ∷ 0xA4 ∷ [])
  -- a write to read-only bits succeeds
  pub read_only : write 1 2 0x40 0xFF ≡ leaves (0x11 ∷ 0x22 ∷ 0x33 ∷ 0x44 ∷ [])
  -- the order of checks: -9, then -5; nothing is written
  pub bad_handle : left (
      write_config 4 (functions 1) records (registers before) (7 ∷ []) 2 0x40 0xA1B2C3D4)
      ≡ refuses 9
  pub bad_handle_first : map (λ handle. write 2 handle 0x41 0xFFFF) (0 ∷ 2 ∷ 3 ∷ [])
      ≡ refuses 9 ∷ refuses 5 ∷ refuses 9 ∷ []
  pub not_multiple : map (λ register. write 4 2 register 0xFFFFFFFF) (0x41 ∷ 0x42 ∷ 0x43 ∷ [])
      ≡ refuses 5 ∷ refuses 5 ∷ refuses 5 ∷ []
  -- the list depends on the command byte 04h
  pub command_bytes : map (moves_windows 1) (0x03 ∷ 0x04 ∷ 0x05 ∷ []) ≡ false ∷ true ∷ false ∷ []
  pub command_words : map (moves_windows 2) (0x02 ∷ 0x04 ∷ 0x06 ∷ []) ≡ false ∷ true ∷ false ∷ []
  pub command_longwords : map (moves_windows 4) (0x00 ∷ 0x04 ∷ 0x08 ∷ [])
      ≡ false ∷ true ∷ false ∷ []
  -- and on the base registers 10h-27h
  pub base_bytes : map (moves_windows 1) (0x0F ∷ 0x10 ∷ 0x27 ∷ 0x28 ∷ [])
      ≡ false ∷ true ∷ true ∷ false ∷ []
  pub base_words : map (moves_windows 2) (0x0E ∷ 0x10 ∷ 0x26 ∷ 0x28 ∷ [])
      ≡ false ∷ true ∷ true ∷ false ∷ []
  pub base_longwords : map (moves_windows 4) (0x0C ∷ 0x10 ∷ 0x24 ∷ 0x28 ∷ [])
      ≡ false ∷ true ∷ true ∷ false ∷ []
