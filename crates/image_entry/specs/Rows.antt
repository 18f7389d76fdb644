-- Rows with literal numbers of document 01, "Record rules": the clauses on a base register and its
-- entry, each of all bytes or at both sides of its boundary. In a row all other clauses hold.
use Rattle.std.specs.Prelude.{ℕ, zero, suc, ◌+◌, ◌-◌, ◌^◌, Bool, true, false, cond, List, [], ◌∷◌, ◌++◌, map, ◌≡◌}
use Rattle.image_entry.specs.declared.entry.Entry.{Entry}
use Rattle.image_entry.specs.Entry.{entry_ok}

-- an entry's four bytes, and the reset value and the mask of its base register
abbrev entry : ℕ → ℕ → ℕ → ℕ → ℕ → ℕ → Entry
entry k order widths fourth value mask =
    record {
      exponent = k;
      order = order;
      widths = widths;
      zero = fourth;
      value = value;
      mask = mask;
    }

-- the numbers below n that a rule accepts
unfoldable pub accepted_below : ℕ → (ℕ → Bool) → List ℕ
accepted_below zero rule = []
accepted_below (suc n) rule = accepted_below n rule ++ cond (rule n) (n ∷ []) []

pub record ImageEntryRows : Type 0 where
  -- k = 0: the rest of the entry is zero
  pub no_window_order : accepted_below 256 (λ order. entry_ok (entry 0 order 0 0 0 0)) ≡ 0 ∷ []
  pub no_window_widths : accepted_below 256 (λ widths. entry_ok (entry 0 0 widths 0 0 0)) ≡ 0 ∷ []
  pub no_window_fourth : accepted_below 256 (λ fourth. entry_ok (entry 0 0 0 fourth 0 0)) ≡ 0 ∷ []
  -- the register and its mask are zero: no bit of them may be set
  pub no_window_register : accepted_below 32 (λ bit. entry_ok (entry 0 0 0 0 (2 ^ bit) 0)) ≡ []
  pub no_window_mask : accepted_below 32 (λ bit. entry_ok (entry 0 0 0 0 0 (2 ^ bit))) ≡ []
  -- else k is 4..16 for memory (bit 0 clear)
  pub memory_exponents :
      accepted_below 256 (λ k. entry_ok (entry k 1 7 0 0x80000000 (2 ^ 32 - 2 ^ k)))
      ≡ 4 ∷ 5 ∷ 6 ∷ 7 ∷ 8 ∷ 9 ∷ 10 ∷ 11 ∷ 12 ∷ 13 ∷ 14 ∷ 15 ∷ 16 ∷ []
  -- or 2..16 for I/O (bit 0 set)
  pub io_exponents :
      accepted_below 256 (λ k. entry_ok (entry k 2 1 0 0x80000001 (2 ^ 32 - 2 ^ k)))
      ≡ 2 ∷ 3 ∷ 4 ∷ 5 ∷ 6 ∷ 7 ∷ 8 ∷ 9 ∷ 10 ∷ 11 ∷ 12 ∷ 13 ∷ 14 ∷ 15 ∷ 16 ∷ []
  -- order is 0, 1, 2 or 15: of memory at 80000000h, k 10, and of I/O at 00000100h, k 4
  pub memory_orders :
      accepted_below 256 (λ order. entry_ok (entry 10 order 7 0 0x80000000 0xFFFFFC00))
      ≡ 0 ∷ 1 ∷ 2 ∷ 15 ∷ []
  pub io_orders :
      accepted_below 256 (λ order. entry_ok (entry 4 order 1 0 0x00000101 0xFFFFFFF0))
      ≡ 0 ∷ 1 ∷ 2 ∷ 15 ∷ []
  -- widths 1..7
  pub memory_widths :
      accepted_below 256 (λ widths. entry_ok (entry 10 1 widths 0 0x80000000 0xFFFFFC00))
      ≡ 1 ∷ 2 ∷ 3 ∷ 4 ∷ 5 ∷ 6 ∷ 7 ∷ []
  pub io_widths :
      accepted_below 256 (λ widths. entry_ok (entry 4 2 widths 0 0x00000101 0xFFFFFFF0))
      ≡ 1 ∷ 2 ∷ 3 ∷ 4 ∷ 5 ∷ 6 ∷ 7 ∷ []
  -- the fourth byte is zero
  pub memory_fourth :
      accepted_below 256 (λ fourth. entry_ok (entry 10 1 7 fourth 0x80000000 0xFFFFFC00)) ≡ 0 ∷ []
  pub io_fourth :
      accepted_below 256 (λ fourth. entry_ok (entry 4 2 1 fourth 0x00000101 0xFFFFFFF0)) ≡ 0 ∷ []
  -- the mask is 2^32 - 2^k: of the least and of the greatest k,
  pub least_masks :
      map entry_ok (entry 4 1 7 0 0x80000000 0xFFFFFFF0 ∷ entry 2 2 1 0 0x00000101 0xFFFFFFFC ∷ [])
      ≡ true ∷ true ∷ []
  pub greatest_masks :
      map entry_ok (entry 16 1 7 0 0x80000000 0xFFFF0000 ∷ entry 16 2 1 0 0x80000001 0xFFFF0000 ∷ [])
      ≡ true ∷ true ∷ []
  -- and neither one bit more, one bit less, a bit below k, without bit 31, one less, nor none
  pub memory_masks :
      map (λ mask. entry_ok (entry 10 1 7 0 0x80000000 mask))
      (0xFFFFFC00 ∷ 0xFFFFFE00 ∷ 0xFFFFF800 ∷ 0xFFFFFC01 ∷ 0x7FFFFC00 ∷ 0xFFFFFBFF ∷ 0 ∷ [])
      ≡ true ∷ false ∷ false ∷ false ∷ false ∷ false ∷ false ∷ []
  pub io_masks :
      map (λ mask. entry_ok (entry 4 2 1 0 0x00000101 mask))
      (0xFFFFFFF0 ∷ 0xFFFFFFF8 ∷ 0xFFFFFFE0 ∷ 0xFFFFFFF1 ∷ 0x7FFFFFF0 ∷ 0xFFFFFFEF ∷ 0 ∷ [])
      ≡ true ∷ false ∷ false ∷ false ∷ false ∷ false ∷ false ∷ []
  -- reset bits below k: memory may have bit 3 set, the rest zero; I/O has 1 in bit 0 only. So of
  -- all low bits 0 and 8 are memory's, and 1 is I/O's, which alone has k 2 and 3
  pub low_bits :
      accepted_below 0x400 (λ low. entry_ok (entry 10 1 7 0 (0x80000000 + low) 0xFFFFFC00))
      ≡ 0 ∷ 1 ∷ 8 ∷ []
  pub low_bits_of4 :
      accepted_below 0x10 (λ low. entry_ok (entry 4 1 7 0 (0x80000000 + low) 0xFFFFFFF0))
      ≡ 0 ∷ 1 ∷ 8 ∷ []
  pub low_bits_of3 :
      accepted_below 0x8 (λ low. entry_ok (entry 3 1 7 0 (0x80000000 + low) 0xFFFFFFF8)) ≡ 1 ∷ []
  pub low_bits_of2 :
      accepted_below 0x4 (λ low. entry_ok (entry 2 1 7 0 (0x80000000 + low) 0xFFFFFFFC)) ≡ 1 ∷ []
  -- bits k - 1 and k of the longest windows: memory, with bit 3, and I/O
  pub low_bits_of16 :
      map (λ value. entry_ok (entry 16 1 7 0 value 0xFFFF0000))
      (0x80008000 ∷ 0x80010000 ∷ 0x80008008 ∷ 0x80010008 ∷ 0x80008001 ∷ 0x80010001 ∷ [])
      ≡ false ∷ true ∷ false ∷ true ∷ false ∷ true ∷ []
  -- bits from k on are free, all of them zero or one
  pub high_bits :
      map (λ value. entry_ok (entry 10 1 7 0 value 0xFFFFFC00))
      (0 ∷ 1 ∷ 8 ∷ 0xFFFFFC00 ∷ 0xFFFFFC01 ∷ 0xFFFFFC08 ∷ [])
      ≡ true ∷ true ∷ true ∷ true ∷ true ∷ true ∷ []
