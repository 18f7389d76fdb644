-- What configuration writes mean (document 01, "Registers" and "Windows"; document 02, E2):
-- statements alone, proved in proofs/Masks.antt, proofs/Written.antt and proofs/Moves.antt.
use Rattle.std.specs.Prelude.{ℕ, ◌+◌, ◌-◌, ◌*◌, ◌/◌, ◌%◌, ◌^◌, ◌<◌, ◌≤◌, true, cond, not, ◌&&◌, List, ◌↔◌, ◌⊎◌, ◌≡◌, eqb, leb, ltb, length, get_or, Ok}
use Rattle.numbers.specs.Numbers.{bit}
use Rattle.board.specs.Handles.{is_handle}
use Rattle.board.specs.Layout.{registers_each, mask_byte, register_byte}
use Rattle.board.specs.Statuses.{successful}
use Rattle.window_list.specs.Kept.{kept_list}
use Rattle.window_list.specs.Meaning.{Watched}
use Rattle.window_list.specs.Windows.{window_list}
use Rattle.config_read.specs.Target.{target}
use Rattle.config_masked.specs.Masked.{written}
use Rattle.config_write.specs.Write.{clear_mask, bytes_written, moves_windows, write_config}

-- bit by bit, in status: a masked bit stays set exactly if it was and 0 is written, and every other
-- bit stays
abbrev pub StatusBits : Type 0
StatusBits =
    (register mask old new b : ℕ) → mask < 256 → new < 256 → b < 8
    → (register ≡ 0x06) ⊎ (register ≡ 0x07)
    → bit b (written mask (clear_mask register mask) old new)
    ≡ cond (bit b mask) (bit b old && not (bit b new)) (bit b old)

-- in every other register: the written bit where the mask has 1, else the one that stood there
abbrev pub MaskedBits : Type 0
MaskedBits =
    (register mask old new b : ℕ) → mask < 256 → new < 256 → b < 8
    → (register ≡ 0x06 → ⊥) → (register ≡ 0x07 → ⊥)
    → bit b (written mask (clear_mask register mask) old new)
    ≡ cond (bit b mask) (bit b new) (bit b old)

-- register `at` of the function at place j after w bytes are written: each addressed byte follows
-- its own masks, and nothing else changes
pub record WrittenThrough (w : ℕ) (mask clear : ℕ → ℕ) (i register value : ℕ)
    (registers : List ℕ) : Type 0 where
  pub room : length (bytes_written w mask clear i register value registers) ≡ length registers
  pub byte : (j at : ℕ) → at < registers_each
      → register_byte (bytes_written w mask clear i register value registers) j at
      ≡ cond (eqb j i && (leb register at && ltb at (register + w)))
      (written (mask at) (clear at)
      (register_byte registers i at) (value / 256 ^ (at - register) % 256))
      (register_byte registers j at)

abbrev pub MaskedWrite : Type 0
MaskedWrite =
    (w : ℕ) (mask clear : ℕ → ℕ) (i register value : ℕ) (registers : List ℕ)
    → register + w ≤ registers_each → registers_each * (i + 1) ≤ length registers
    → WrittenThrough w mask clear i register value registers

-- a write to read-only bits succeeds: it gives 0 and leaves the registers
abbrev pub ReadOnly : Type 0
ReadOnly =
    (w : ℕ) (header records registers windows : List ℕ) (handle register value i : ℕ)
    → target (is_handle header handle) w handle register ≡ Ok i
    → ((at : ℕ) → get_or registers at 0 < 256)
    → ((d : ℕ) → d < w → mask_byte records i (register + d) ≡ 0)
    → ((write_config w header records registers windows handle register value).status ≡ successful)
    × ((write_config w header records registers windows handle register value).registers ≡ registers)

-- the list is worked out anew exactly where a byte of 04h or 10h-27h is addressed
abbrev pub MovesWindows : Type 0
MovesWindows =
    (w register : ℕ) → 0 < w
    → (moves_windows w register ≡ true) ↔ ((d : ℕ) × (d < w) × Watched (register + d))

-- a kept list that is the list of its board stays so
abbrev pub ListFollows : Type 0
ListFollows =
    (w : ℕ) (header records registers windows : List ℕ) (handle register value : ℕ)
    → windows ≡ kept_list (window_list header records registers)
    → (write_config w header records registers windows handle register value).windows
    ≡ kept_list (window_list header records
    (write_config w header records registers windows handle register value).registers)
