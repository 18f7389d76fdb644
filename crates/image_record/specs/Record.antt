-- The rules of one record: document 01, "Board image", "Record rules". r is the record's bytes.
use Rattle.std.specs.Prelude.{ℕ, ◌+◌, ◌*◌, ◌%◌, ◌^◌, Bool, not, ◌&&◌, List, leb, eqb}
use Rattle.numbers.specs.Numbers.{byte_at, is_multiple, little, big}
use Rattle.board.specs.Layout.{masks_at, entries_at, entry_size, offset_at, base_register}
use Rattle.image_entry.specs.declared.entry.Entry.{Entry}
use Rattle.image_entry.specs.Entry.{entry_ok}

-- the reset value and the mask of w registers, least byte first
abbrev pub reset_at : ℕ → List ℕ → ℕ → ℕ
reset_at w r register = little w (byte_at r) register

abbrev pub mask_at : ℕ → List ℕ → ℕ → ℕ
mask_at w r register = little w (byte_at r) (masks_at + register)

-- vendor is not FFFFh; header type has bits 6..0 zero; pin is 0 to 4
abbrev pub vendor_ok : List ℕ → Bool
vendor_ok r = not (eqb (reset_at 2 r 0x00) 0xFFFF)

abbrev pub header_type_ok : List ℕ → Bool
header_type_ok r = eqb (byte_at r 0x0E % 2 ^ 7) 0

abbrev pub pin_ok : List ℕ → Bool
pin_ok r = leb (byte_at r 0x3D) 4

-- masks are zero at 00h-03h, 08h-0Bh, 0Eh, 2Ch-33h, 3Dh; reset values at 30h-33h are zero
abbrev pub masks_ok : List ℕ → Bool
masks_ok r =
    eqb (mask_at 4 r 0x00) 0
    && (eqb (mask_at 4 r 0x08) 0
    && (eqb (mask_at 1 r 0x0E) 0
    && (eqb (mask_at 4 r 0x2C) 0
    && (eqb (mask_at 4 r 0x30) 0
    && eqb (mask_at 1 r 0x3D) 0))))

abbrev pub rom_ok : List ℕ → Bool
rom_ok r = eqb (reset_at 4 r 0x30) 0

-- base register b is at 10h + 4 b
abbrev pub entry_at : List ℕ → ℕ → Entry
entry_at r b =
    record {
      exponent = byte_at r (entries_at + entry_size * b);
      order = byte_at r (entries_at + entry_size * b + 1);
      widths = byte_at r (entries_at + entry_size * b + 2);
      zero = byte_at r (entries_at + entry_size * b + 3);
      value = base_register (byte_at r) b;
      mask = mask_at 4 r (0x10 + 4 * b);
    }

abbrev pub entries_ok : List ℕ → Bool
entries_ok r =
    entry_ok (entry_at r 0)
    && (entry_ok (entry_at r 1)
    && (entry_ok (entry_at r 2)
    && (entry_ok (entry_at r 3)
    && (entry_ok (entry_at r 4)
    && entry_ok (entry_at r 5)))))

-- the offset is a multiple of 4
abbrev pub offset_ok : List ℕ → Bool
offset_ok r = is_multiple (big 4 (byte_at r) offset_at) 4

unfoldable pub record_ok : List ℕ → Bool
record_ok r =
    vendor_ok r && (header_type_ok r && (pin_ok r
    && (masks_ok r && (rom_ok r && (entries_ok r && offset_ok r)))))
