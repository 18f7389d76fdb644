-- One descriptor: document 01, "Descriptors".
use Rattle.std.specs.Prelude.{ℕ, ◌+◌, ◌*◌, ◌%◌, Bool, cond, ◌||◌, List, [], ◌∷◌, ◌++◌, eqb, leb}
use Rattle.numbers.specs.Numbers.{byte_at, big, big_bytes}
use Rattle.resource_descriptor.specs.declared.descriptor.Descriptor.{Descriptor}

-- bytes of a descriptor
abbrev pub size : ℕ
size = 20

-- the byte orders there are; another is read as 0
abbrev pub shown_order : ℕ → ℕ
shown_order order = cond (eqb order 1 || (eqb order 2 || eqb order 15)) order 0

-- 8000h last, 4000h I/O, 0100h, 0200h, 0400h widths by their bits 0 to 2, order in bits 3..0
abbrev pub flags : Bool → Bool → ℕ → ℕ → ℕ
flags last io widths order =
    cond last 0x8000 0 + (cond io 0x4000 0 + (0x0100 * (widths % 8) + shown_order order))

-- its bytes: the fields one after the other, big-endian
unfoldable pub descriptor_bytes : Descriptor → List ℕ
descriptor_bytes d =
    big_bytes 2 d.next
    ++ (big_bytes 2 d.flags
    ++ (big_bytes 4 d.start
    ++ (big_bytes 4 d.length
    ++ (big_bytes 4 d.offset ++ big_bytes 4 d.dmaoffset))))

unfoldable pub descriptors_bytes : List Descriptor → List ℕ
descriptors_bytes [] = []
descriptors_bytes (d ∷ ds) = descriptor_bytes d ++ descriptors_bytes ds

-- the fields that stand in bytes at a position
abbrev pub descriptor_at : List ℕ → ℕ → Descriptor
descriptor_at l at =
    record {
      next = big 2 (byte_at l) at;
      flags = big 2 (byte_at l) (at + 2);
      start = big 4 (byte_at l) (at + 4);
      length = big 4 (byte_at l) (at + 8);
      offset = big 4 (byte_at l) (at + 12);
      dmaoffset = big 4 (byte_at l) (at + 16);
    }

-- the mark of the last descriptor is the highest of 16 bits
abbrev pub is_last : Descriptor → Bool
is_last d = leb 0x8000 d.flags
