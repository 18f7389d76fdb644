-- Writing configuration registers: document 01, "Registers", and document 02, E2. The kept window
-- list follows the registers that it depends on.
use Rattle.std.specs.Prelude.{ℕ, zero, suc, ◌+◌, ◌*◌, ◌/◌, ◌%◌, Bool, cond, ◌&&◌, ◌||◌, List, eqb, leb, ltb, set, Result, Ok, Err}
use Rattle.board.specs.Handles.{is_handle}
use Rattle.board.specs.Layout.{registers_each, mask_byte, register_byte}
use Rattle.board.specs.Statuses.{Status, successful}
use Rattle.board.specs.declared.status.CallRefusal.{CallRefusal}
use Rattle.window_list.specs.Kept.{kept_list}
use Rattle.window_list.specs.Windows.{window_list}
use Rattle.config_read.specs.Target.{target}
use Rattle.config_masked.specs.Masked.{written}

-- the clear mask of a register with a mask: of status, 06h and 07h, it is the mask, so each masked
-- bit becomes old AND NOT written; no other register has one
abbrev pub clear_mask : ℕ → ℕ → ℕ
clear_mask register mask = cond (eqb register 0x06 || eqb register 0x07) mask 0

-- the clear mask of a register of the function at place i
abbrev pub clear_mask_byte : List ℕ → ℕ → ℕ → ℕ
clear_mask_byte records i register = clear_mask register (mask_byte records i register)

-- the registers after one byte of the function at place i is written; its masks, by register
abbrev pub byte_written : (ℕ → ℕ) → (ℕ → ℕ) → ℕ → ℕ → ℕ → List ℕ → List ℕ
byte_written mask clear i register new registers =
    set registers (registers_each * i + register)
    (written (mask register) (clear register) (register_byte registers i register) new)

-- the registers after the w low bytes of a value are written, little-endian
unfoldable pub bytes_written : ℕ → (ℕ → ℕ) → (ℕ → ℕ) → ℕ → ℕ → ℕ → List ℕ → List ℕ
bytes_written zero mask clear i register value registers = registers
bytes_written (suc w) mask clear i register value registers =
    bytes_written w mask clear i (register + 1) (value / 256)
    (byte_written mask clear i register (value % 256) registers)

-- each byte through the masks of its own register
abbrev pub registers_written : ℕ → List ℕ → ℕ → ℕ → ℕ → List ℕ → List ℕ
registers_written w records i register value registers =
    bytes_written w (mask_byte records i) (clear_mask_byte records i) i register value registers

-- whether w bytes from a register on hold one of 04h or 10h-27h
abbrev pub moves_windows : ℕ → ℕ → Bool
moves_windows w register =
    (leb register 0x04 && ltb 0x04 (register + w))
    || (ltb register 0x28 && ltb 0x10 (register + w))

-- a write's status, and the registers and the kept list that it leaves
pub record ConfigWritten : Type 0 where
  pub status : Status
  pub registers : List ℕ
  pub windows : List ℕ

abbrev pub config_written : Status → List ℕ → List ℕ → ConfigWritten
config_written status registers windows =
    record { status = status; registers = registers; windows = windows }

-- a write to the function at a place; a refused one leaves everything
abbrev pub write_to : List ℕ → List ℕ → List ℕ → List ℕ → ℕ → ℕ → ℕ → Result ℕ CallRefusal → ConfigWritten
write_to header records registers windows w register value (Ok i) =
    let after = registers_written w records i register value registers in
    config_written successful after
    (cond (moves_windows w register) (kept_list (window_list header records after)) windows)
write_to header records registers windows w register value (Err s) =
    config_written (Err s) registers windows

abbrev pub write_config : ℕ → List ℕ → List ℕ → List ℕ → List ℕ → ℕ → ℕ → ℕ → ConfigWritten
write_config w header records registers windows handle register value =
    write_to header records registers windows w register value
    (target (is_handle header handle) w handle register)
