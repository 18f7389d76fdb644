-- The rules of one window entry: document 01, "Board image", "Record rules".
use Rattle.std.specs.Prelude.{ℕ, ◌+◌, ◌%◌, ◌^◌, Bool, cond, ◌&&◌, ◌||◌, leb, eqb}
use Rattle.image_entry.specs.declared.entry.Entry.{Entry}

-- k = 0: the rest of the entry, the register and its mask are zero
abbrev pub empty_ok : Entry → Bool
empty_ok e =
    eqb e.order 0 && (eqb e.widths 0 && (eqb e.zero 0
    && (eqb e.value 0 && eqb e.mask 0)))

-- bit 0 of the reset value tells I/O from memory
abbrev pub is_io : ℕ → Bool
is_io value = eqb (value % 2) 1

-- k is 4..16 for memory or 2..16 for I/O
abbrev pub exponent_ok : ℕ → Bool → Bool
exponent_ok k io = (leb 4 k || (io && leb 2 k)) && leb k 16

-- order is 0, 1, 2 or 15
abbrev pub order_ok : ℕ → Bool
order_ok order = leb order 2 || eqb order 15

-- widths 1..7
abbrev pub widths_ok : ℕ → Bool
widths_ok widths = leb 1 widths && leb widths 7

-- these, and the fourth byte is zero
abbrev pub form_ok : Entry → Bool
form_ok e =
    exponent_ok e.exponent (is_io e.value)
    && (order_ok e.order && (widths_ok e.widths && eqb e.zero 0))

-- the mask is 2^32 - 2^k
abbrev pub mask_ok : ℕ → ℕ → Bool
mask_ok mask size = eqb (mask + size) (2 ^ 32)

-- reset bits below k: I/O has 1 in bit 0 only; memory may have bit 3 set, the rest zero
abbrev pub low_bits_ok : ℕ → ℕ → Bool
low_bits_ok value size =
    cond (is_io value) (eqb (value % size) 1)
    (eqb (value % size) 0 || eqb (value % size) 8)

-- an empty entry, or one of a window
unfoldable pub entry_ok : Entry → Bool
entry_ok e =
    cond (eqb e.exponent 0) (empty_ok e)
    (form_ok e && (mask_ok e.mask (2 ^ e.exponent) && low_bits_ok e.value (2 ^ e.exponent)))
