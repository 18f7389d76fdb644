-- The descriptors of a function's windows: document 01, "Descriptors" and "Numbers handed back",
-- Resource.
use Rattle.std.specs.Prelude.{ℕ, zero, suc, ◌+◌, ◌-◌, ◌*◌, ◌^◌, Bool, cond, List, [], ◌∷◌, eqb, ltb, length}
use Rattle.std.proofs.lemmas.List.Edits.{sets}
use Rattle.board.specs.Handles.{is_handle}
use Rattle.board.specs.Layout.{
  bases,
  exponent,
  byte_order,
  widths,
  offset,
  dma_offset,
  register_byte,
  base_register,
}
use Rattle.board.specs.Statuses.{Status, successful, buffer_too_small, general_error, bad_handle}
use Rattle.window.specs.Kept.{unpacked}
use Rattle.window.specs.Window.{Window, register_space, is_window}
use Rattle.window_start.specs.Start.{start_in}
use Rattle.resource_descriptor.specs.declared.descriptor.Descriptor.{Descriptor}
use Rattle.resource_descriptor.specs.Descriptor.{size, flags, descriptors_bytes}

-- of n base registers from b on, those that have a window; k is their length exponent
unfoldable pub windows_from : (ℕ → ℕ) → ℕ → ℕ → List ℕ
windows_from k zero b = []
windows_from k (suc n) b =
    cond (is_window (k b)) (b ∷ windows_from k n (b + 1)) (windows_from k n (b + 1))

abbrev pub window_bases : (ℕ → ℕ) → List ℕ
window_bases k = windows_from k bases 0

-- what a function's descriptors are made of: its handle, the window list, by base register the
-- length exponent, byte order, widths and current value, and both offsets. The lent parts give one,
-- and so does the reference machine, so that both are under one rule
pub record Source : Type 0 where
  pub handle : ℕ
  pub windows : List Window
  pub exponent : ℕ → ℕ
  pub order : ℕ → ℕ
  pub widths : ℕ → ℕ
  pub register : ℕ → ℕ
  pub offset : ℕ
  pub dma_offset : ℕ

-- the descriptor of the window of base register b
abbrev pub descriptor_of : Source → Bool → ℕ → Descriptor
descriptor_of s last b =
    record {
      next = size;
      flags = flags last (eqb (register_space (s.register b)) 1) (s.widths b) (s.order b);
      start = start_in s.windows s.handle b;
      length = 2 ^ s.exponent b;
      offset = s.offset;
      dmaoffset = s.dma_offset;
    }

-- of some base registers, the last one marked
unfoldable pub described : Source → List ℕ → List Descriptor
described s [] = []
described s (b ∷ l) = descriptor_of s (eqb (length l) 0) b ∷ described s l

abbrev pub descriptors : Source → List Descriptor
descriptors s = described s (window_bases s.exponent)

-- a status, and the lent buffer
pub record ResourceOutcome : Type 0 where
  pub status : Status
  pub out : List ℕ

abbrev pub resource_outcome : Status → List ℕ → ResourceOutcome
resource_outcome status out = record { status = status; out = out }

-- the checks in their order, of a handle that is good or not; bytes past the last descriptor stay
unfoldable pub resource : Bool → Source → List ℕ → ResourceOutcome
resource good s out =
    let n = length (window_bases s.exponent) in
    cond good
    (cond (eqb n 0) (resource_outcome general_error out)
    (cond (ltb (length out) (size * n)) (resource_outcome buffer_too_small out)
    (resource_outcome successful (sets out 0 (descriptors_bytes (descriptors s))))))
    (resource_outcome bad_handle out)

-- of the lent parts
abbrev pub source_of : List ℕ → List ℕ → List ℕ → ℕ → Source
source_of records registers windows handle =
    let i = handle - 1 in
    record {
      handle = handle;
      windows = unpacked windows;
      exponent = exponent records i;
      order = byte_order records i;
      widths = widths records i;
      register = base_register (register_byte registers i);
      offset = offset records i;
      dma_offset = dma_offset records i;
    }

abbrev pub get_resource : List ℕ → List ℕ → List ℕ → List ℕ → ℕ → List ℕ → ResourceOutcome
get_resource header records registers windows handle out =
    resource (is_handle header handle) (source_of records registers windows handle) out
