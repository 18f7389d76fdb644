-- What is stored of a descriptor is read back: its fields have their 16 and 32 bits.
use Prim.Native.Nat.{ℕ, ◌+◌, ◌-◌, ◌^◌, ◌<◌}
use native.Mathlib.Omega.{arith}
use native.Mathlib.Nat.{add-zero, mod-eq_of_lt}
use mathlib.Core.Bool.{Bool, true, false}
use mathlib.Core.List.{List, [], ◌++◌, append_assoc}
use mathlib.Core.Path.{◌≡◌, refl, ◌∙◌}
use lib.Dec.{eqb, leb}
use lib.ListN.{length, length-append}
use lib.Pow.{pow_mono}
use borrow.Author.Tests.{le-leb, lt-leb}
use Rattle.board.specs.Layout.{exponent}
use Rattle.numbers.specs.Numbers.{byte_at, big, big_bytes}
use Rattle.numbers.proofs.Numbers.{big_bytes_lem, big_below}
use Rattle.numbers.proofs.Tables.{table_length}
use Rattle.window.specs.Window.{register_space}
use Rattle.resource_descriptor.specs.declared.descriptor.Descriptor.{Descriptor}
use Rattle.resource_descriptor.specs.Descriptor.{flags, descriptor_bytes, descriptor_at}
use Rattle.window.specs.Window.{is_window}
use Rattle.resource.specs.Resource.{descriptor_of, source_of}
use Rattle.window_start.proofs.Starts.{start_small}
use Rattle.resource_descriptor.proofs.Fields.{shown_small}
use Rattle.window.proofs.Exponents.{window_range}

-- a number of w bytes in a list, m positions after others
field : (w v m : ℕ) (l before mid after : List ℕ) → v < 256 ^ w → length mid ≡ m → l ≡ before ++ (mid ++ (big_bytes w v ++ after))
    → big w (byte_at l) (length before + m) ≡ v
field w v m l before mid after h e q =
    rw (q, ← append_assoc before mid (big_bytes w v ++ after), ← e, ← length-append before mid) (big_bytes_lem w v (before ++ mid) after) ∙ mod-eq_of_lt h

-- a descriptor whose fields have 16 and 32 bits
pub record Small (d : Descriptor) : Type 0 where
  pub next : d.next < 2 ^ 16
  pub flags : d.flags < 2 ^ 16
  pub start : d.start < 2 ^ 32
  pub length : d.length < 2 ^ 32
  pub offset : d.offset < 2 ^ 32
  pub dmaoffset : d.dmaoffset < 2 ^ 32

-- is read as it was stored
pub fields_back : (d : Descriptor) → Small d → (before after : List ℕ) → descriptor_at (before ++ (descriptor_bytes d ++ after)) (length before) ≡ d
unfolding descriptor_bytes
fields_back d small before after =
    let a = big_bytes 2 d.next in
    let b = big_bytes 2 d.flags in
    let c = big_bytes 4 d.start in
    let e = big_bytes 4 d.length in
    let f = big_bytes 4 d.offset in
    let g = big_bytes 4 d.dmaoffset in
    let l = before ++ ((a ++ (b ++ (c ++ (e ++ (f ++ g))))) ++ after) in
    let n : ℕ = length before in
    let f₀ : big 2 (byte_at l) (n + 0) ≡ d.next = field 2 d.next 0 l before [] (b ++ (c ++ (e ++ (f ++ (g ++ after))))) small.next refl (simp append_assoc) in
    let f₁ : big 2 (byte_at l) (n + 2) ≡ d.flags =
    field 2 d.flags 2 l before a (c ++ (e ++ (f ++ (g ++ after)))) small.flags (simp table_length) (simp append_assoc) in
    let f₂ : big 4 (byte_at l) (n + 4) ≡ d.start =
    field 4 d.start 4 l before (a ++ b) (e ++ (f ++ (g ++ after))) small.start (simp (length-append, table_length)) (simp append_assoc) in
    let f₃ : big 4 (byte_at l) (n + 8) ≡ d.length =
    field 4 d.length 8 l before (a ++ (b ++ c)) (f ++ (g ++ after)) small.length (simp (length-append, table_length)) (simp append_assoc) in
    let f₄ : big 4 (byte_at l) (n + 12) ≡ d.offset =
    field 4 d.offset 12 l before (a ++ (b ++ (c ++ e))) (g ++ after) small.offset (simp (length-append, table_length)) (simp append_assoc) in
    let f₅ : big 4 (byte_at l) (n + 16) ≡ d.dmaoffset =
    field 4 d.dmaoffset 16 l before (a ++ (b ++ (c ++ (e ++ f)))) after small.dmaoffset (simp (length-append, table_length)) (simp append_assoc) in
    rw (rw (add-zero n) at f₀, f₁, f₂, f₃, f₄, f₅)

-- flags have 16 bits, the highest set by the last mark alone
flags_small : (last io : Bool) (widths order : ℕ) → flags last io widths order < 2 ^ 16
flags_small true true widths order = omega (arith, shown_small order)
flags_small true false widths order = omega (arith, shown_small order)
flags_small false true widths order = omega (arith, shown_small order)
flags_small false false widths order = omega (arith, shown_small order)

pub last_flag : (last io : Bool) (widths order : ℕ) → leb 0x8000 (flags last io widths order) ≡ last
last_flag true io widths order = le-leb 0x8000 (flags true io widths order) (omega arith)
last_flag false true widths order = lt-leb 0x8000 (flags false true widths order) (omega (arith, shown_small order))
last_flag false false widths order = lt-leb 0x8000 (flags false false widths order) (omega (arith, shown_small order))

-- the descriptors of the lent parts have their 16 and 32 bits
pub parts_small : (records registers windows : List ℕ) (handle : ℕ) (last : Bool) (b : ℕ)
    → is_window (exponent records (handle - 1) b) ≡ true → Small (descriptor_of (source_of records registers windows handle) last b)
parts_small records registers windows handle last b t =
    let s = source_of records registers windows handle in
    record {
      next = omega arith;
      flags = flags_small last (eqb (register_space (s.register b)) 1) (s.widths b) (s.order b);
      start = start_small windows handle b;
      length = omega (arith, pow_mono {i = exponent records (handle - 1) b} (window_range _ t).1);
      offset = big_below 4 _ _;
      dmaoffset = big_below 4 _ _;
    }
