-- What a write leaves: each addressed byte through its own mask, and every other as it was.
use Prim.Native.Nat.{ℕ, zero, suc, ◌+◌, ◌-◌, ◌*◌, ◌/◌, ◌%◌, ◌^◌, ◌<◌, ◌≤◌}
use native.Mathlib.Nat.{add-zero, pow-succ', div-one, div-div-eq-div-mul}
use native.Mathlib.Omega.{arith}
use mathlib.Core.Bool.{Bool, true, false, cond, ◌&&◌, true≢false}
use mathlib.Core.List.{List}
use mathlib.Core.Path.{◌≡◌, refl, sym, ◌∙◌, ap}
use lib.Dec.{eqb, leb, ltb}
use lib.ListN.{length, get_or, length-set}
use lib.Seq.{get_or-set_same, get_or-set_other, set-get_or}
use borrow.Author.Tests.{eq-eqb, le-leb, lt-ltb, eqb-true, leb-true, ltb-true}
use Rattle.board.specs.Layout.{registers_each, mask_byte, register_byte}
use Rattle.numbers.proofs.Tests.{both_true}
use Rattle.config_masked.specs.Masked.{written}
use Rattle.config_write.specs.Write.{clear_mask, clear_mask_byte, byte_written, bytes_written}
use Rattle.config_write.specs.Meaning.{MaskedWrite, ReadOnly}
use Rattle.config_masked.proofs.Bits.{kept_byte}
use Rattle.config_write.proofs.Masks.{clear_of_none}

module _ (mask clear : ℕ → ℕ) (i : ℕ) where
  pub written_length : (w register value : ℕ) (registers : List ℕ)
      → length (bytes_written w mask clear i register value registers) ≡ length registers
  unfolding bytes_written
  written_length zero register value registers = refl
  written_length (suc w) register value registers = written_length w (register + 1) (value / 256) _ ∙ length-set registers _ _

  -- a byte that is written changes no other register of any function
  byte_elsewhere : (register new : ℕ) (registers : List ℕ) (j at : ℕ) → register < registers_each → at < registers_each
      → (j ≡ i → at ≡ register → ⊥)
      → register_byte (byte_written mask clear i register new registers) j at ≡ register_byte registers j at
  byte_elsewhere register new registers j at h k apart =
      get_or-set_other registers (registers_each * i + register) (registers_each * j + at) _ 0
      (λ e. let f : j ≡ i = omega arith in let g : at ≡ register = omega arith in apart f g)

  -- a register that is not addressed is kept, whatever room there is
  pub written_elsewhere : (w register value : ℕ) (registers : List ℕ) (j at : ℕ) → register + w ≤ registers_each → at < registers_each
      → (j ≡ i → register ≤ at → at < register + w → ⊥)
      → register_byte (bytes_written w mask clear i register value registers) j at ≡ register_byte registers j at
  unfolding bytes_written
  written_elsewhere zero register value registers j at h k apart = refl
  written_elsewhere (suc w) register value registers j at h k apart =
      written_elsewhere w (register + 1) (value / 256) _ j at (omega arith) k (λ e l u. apart e (omega arith) (omega arith))
      ∙ byte_elsewhere register (value % 256) registers j at (omega arith) k (λ e f. apart e (omega arith) (omega arith))

  -- the addressed byte d gets digit d of the value
  written_here : (w d register value : ℕ) (registers : List ℕ) → d < w → register + w ≤ registers_each
      → registers_each * (i + 1) ≤ length registers
      → register_byte (bytes_written w mask clear i register value registers) i (register + d)
      ≡ written (mask (register + d)) (clear (register + d))
      (register_byte registers i (register + d)) (value / 256 ^ d % 256)
  unfolding bytes_written
  written_here zero d register value registers k h room = absurd (omega arith)
  written_here (suc w) zero register value registers k h room =
      rw (add-zero register, div-one value)
      (written_elsewhere w (register + 1) (value / 256) _ i register (omega arith) (omega arith) (λ e l u. omega arith)
      ∙ get_or-set_same registers (registers_each * i + register) _ 0 (omega arith))
  written_here (suc w) (suc d) register value registers k h room =
      let next : register + suc d ≡ register + 1 + d = omega arith in
      let kept = byte_elsewhere register (value % 256) registers i (register + 1 + d) (omega arith) (omega arith) (λ e f. omega arith) in
      rw (next, pow-succ', ← div-div-eq-div-mul, ← kept)
      (written_here w d (register + 1) (value / 256) _ (omega arith) (omega arith) (rw length-set room))

  -- with no bit to write, nothing changes
  written_nothing : (w register value : ℕ) (registers : List ℕ) → ((at : ℕ) → get_or registers at 0 < 256)
      → ((d : ℕ) → d < w → (mask (register + d) ≡ 0) × (clear (register + d) ≡ 0))
      → bytes_written w mask clear i register value registers ≡ registers
  unfolding bytes_written
  written_nothing zero register value registers small none = refl
  written_nothing (suc w) register value registers small none =
      let first : (mask register ≡ 0) × (clear register ≡ 0) = rw (add-zero register) at (none 0 (omega arith)) in
      let kept : byte_written mask clear i register (value % 256) registers ≡ registers =
      rw (first.0, first.1, kept_byte (register_byte registers i register) (value % 256) (small _))
      (set-get_or registers _ 0)
      in
      rw kept
      (written_nothing w (register + 1) (value / 256) registers small
      (λ d h. let next : register + 1 + d ≡ register + suc d = omega arith in rw next (none (suc d) (omega arith))))

-- THEOREM: each addressed byte follows its own mask, and nothing else changes
pub masked_write : MaskedWrite
masked_write w mask clear i register value registers h room =
    record { room = written_length mask clear i w register value registers; byte = λ j at k. by j at k _ refl }
  where
    by : (j at : ℕ) → at < registers_each → (t : Bool) → (eqb j i && (leb register at && ltb at (register + w))) ≡ t
        → register_byte (bytes_written w mask clear i register value registers) j at
        ≡ cond t
        (written (mask at) (clear at) (register_byte registers i at) (value / 256 ^ (at - register) % 256))
        (register_byte registers j at)
    by j at k true t =
        let one = both_true (eqb j i) _ t in
        let two = both_true (leb register at) _ one.1 in
        let same = eqb-true j i one.0 in
        let from = leb-true register at two.0 in
        let to = ltb-true at (register + w) two.1 in
        let there : register + (at - register) ≡ at = omega arith in
        rw same
        (rw there at (written_here mask clear i w (at - register) register value registers (omega arith) h room))
    by j at k false t =
        written_elsewhere mask clear i w register value registers j at h k
        (λ e l u. true≢false (sym (simp (eq-eqb j i e, le-leb register at l, lt-ltb at (register + w) u)) ∙ t))

-- THEOREM: a write to read_only bits gives 0 and leaves the registers
pub read_only : ReadOnly
read_only w header records registers windows handle register value i e small none =
    rw e (
      refl,
      written_nothing (mask_byte records i) (clear_mask_byte records i) i w register value registers small
          (λ d h. let m = none d h in (m, ap (clear_mask (register + d)) m ∙ clear_of_none (register + d))),
    )
