-- The fast data read against the plain one, and reads after a write.
use Prim.Native.Nat.{ℕ, ◌+◌, ◌-◌, ◌%◌, ◌^◌, ◌<◌, ◌≤◌}
use native.Mathlib.Omega.{arith}
use mathlib.Core.Bool.{Bool, true, false, true≢false, false≢true}
use mathlib.Core.List.{List}
use mathlib.Core.Logic.{◌↔◌, ◌⊎◌, inl, inr}
use mathlib.Core.Path.{◌≡◌, refl, ◌∙◌, ap}
use lib.Dec.{ltb}
use lib.ListN.{length, get_or}
use borrow.Author.Tests.{ltb-true, ltb-false}
use Rattle.numbers.specs.Numbers.{byte_at}
use Rattle.numbers.proofs.Numbers.{big_same}
use Rattle.std.specs.Prelude.{pos, Ok, Err}
use Rattle.board.specs.Reads.{value_of, accepted_fast}
use Rattle.board.specs.Statuses.{successful, refusal_number, number_of}
use Rattle.board.specs.declared.status.CallRefusal.{CallRefusal}
use Rattle.board.specs.declared.status.CallRefusal.TheVariants.{FuncNotSupported, BadVendorId, DeviceNotFound, BadRegisterNumber, SetFailed, BufferTooSmall, GeneralError, BadHandle}
use Rattle.data_order.specs.Orders.{ordered}
use Rattle.data_window.specs.Find.{refusal_of}
use Rattle.data_cells.specs.Cells.{CellTarget, cell_target, cells_value}
use Rattle.data_cells.proofs.Cells.{read_back, only_its_cells}
use Rattle.data_cells.proofs.Inside.{target_inside}
use Rattle.data_access.specs.Data.{Inside, read_at, fast_read_at, write_at, write_data}
use Rattle.data_access.specs.Meaning.{FastDataReadAgrees, DataReadBack, HasCell, OtherReadsKept}

-- no refusal has the number of success
refused_number_lem : (r : CallRefusal) → refusal_number r ≡ pos 0 → ⊥
refused_number_lem FuncNotSupported e = absurd (true≢false cc)
refused_number_lem BadVendorId e = absurd (true≢false cc)
refused_number_lem DeviceNotFound e = absurd (true≢false cc)
refused_number_lem BadRegisterNumber e = absurd (true≢false cc)
refused_number_lem SetFailed e = absurd (true≢false cc)
refused_number_lem BufferTooSmall e = absurd (true≢false cc)
refused_number_lem GeneralError e = absurd (true≢false cc)
refused_number_lem BadHandle e = absurd (true≢false cc)

-- at any target
fast_at : (w : ℕ) (cells : List ℕ) (t : CellTarget)
    → (((fast_read_at w cells t).fault ≡ false) ↔ (number_of (read_at w cells t) ≡ pos 0))
    × (((fast_read_at w cells t).fault ≡ false → (fast_read_at w cells t).value ≡ value_of (read_at w cells t))
    × ((fast_read_at w cells t).fault ≡ true → (fast_read_at w cells t).value ≡ 256 ^ w - 1))
fast_at w cells (Ok c) = ((λ e. refl, λ e. refl), (λ e. refl, λ e. absurd (false≢true e)))
fast_at w cells (Err r) =
    ((λ e. absurd (true≢false e), λ e. absurd (refused_number_lem (refusal_of r) e)), (λ e. absurd (true≢false e), λ e. refl))

-- THEOREM: an accepted fast data read is the plain one; a refused one is refused as the plain one is, and gives all ones
pub fast_data_read : FastDataReadAgrees
fast_data_read w header records windows offsets cells space handle address =
    fast_at w cells (cell_target w header records windows offsets (length cells) space handle address)

-- a target by the number of cells lent, which a write keeps
back_at : (w value : ℕ) (cells : List ℕ) (target : ℕ → CellTarget) (t : CellTarget) → target (length cells) ≡ t → Inside w (length cells) t
    → (write_at w value cells t).status ≡ successful
    → read_at w (write_at w value cells t).cells (target (length (write_at w value cells t).cells)) ≡ Ok (value % 256 ^ w)
back_at w value cells target (Ok c) e i a =
    rw (ap target (only_its_cells c.order w c.at value cells).room ∙ e) (ap Ok (read_back c.order w c.at value cells (i c refl)))
back_at w value cells target (Err r) e i a = absurd (true≢false cc)

-- THEOREM: after an accepted write the same read gives the value back
pub data_read_back : DataReadBack
data_read_back w header records windows offsets cells space handle address value =
    back_at w value cells (λ room. cell_target w header records windows offsets room space handle address) _ refl
    (λ c e. target_inside _ _ _ _ _ c e)

-- a cell that is none of an access's stands before or after them
outside : (at w j : ℕ) → ((at ≤ j) × (j < at + w) → ⊥) → (j < at) ⊎ (at + w ≤ j)
outside at w j n = by (ltb j at) refl (ltb j (at + w)) refl
  where
    by : (b : Bool) → ltb j at ≡ b → (c : Bool) → ltb j (at + w) ≡ c → (j < at) ⊎ (at + w ≤ j)
    by true e c f = inl (ltb-true j at e)
    by false e true f = absurd (n (ltb-false j at e, ltb-true j (at + w) f))
    by false e false f = inr (ltb-false j (at + w) f)

-- reads of two buffers that agree on the cells read
pub record Alike (w : ℕ) (left cells : List ℕ) (t : CellTarget) : Type 0 where
  pub plain : read_at w left t ≡ read_at w cells t
  pub fast : fast_read_at w left t ≡ fast_read_at w cells t

alike : (w : ℕ) (left cells : List ℕ) (t : CellTarget) → ((j : ℕ) → HasCell w t j → get_or left j 0 ≡ get_or cells j 0) → Alike w left cells t
alike w left cells (Ok c) s =
    let v : cells_value c.order w c.at left ≡ cells_value c.order w c.at cells =
    ap (ordered c.order w) (big_same w (byte_at left) (byte_at cells) c.at c.at (λ i h. ap (λ x. x % 256) (s (c.at + i) (omega arith, omega arith)))) in
    record { plain = ap Ok v; fast = ap accepted_fast v }
alike w left cells (Err r) s = record { plain = refl; fast = refl }

-- a write keeps what is read elsewhere
kept_at : (w value w' : ℕ) (cells : List ℕ) (t : CellTarget) (target : ℕ → CellTarget)
    → ((j : ℕ) → HasCell w t j → HasCell w' (target (length cells)) j → ⊥)
    → (length (write_at w value cells t).cells ≡ length cells) × Alike w' (write_at w value cells t).cells cells (target (length cells))
kept_at w value w' cells (Ok c) target n =
    let k = only_its_cells c.order w c.at value cells in
    (k.room, alike w' _ cells (target (length cells)) (λ j h. k.same j (outside c.at w j (λ i. n j i h))))
kept_at w value w' cells (Err r) target n = (refl, alike w' cells cells (target (length cells)) (λ j h. refl))

-- THEOREM: every read that has none of a write's cells is after the write as before it
pub other_reads_kept : OtherReadsKept
other_reads_kept header records windows offsets cells w space handle address value w' space' handle' address' n =
    let target : ℕ → CellTarget = λ room. cell_target w' header records windows offsets room space' handle' address' in
    let left : List ℕ = (write_data w header records windows offsets cells space handle address value).cells in
    let k = kept_at w value w' cells (cell_target w header records windows offsets (length cells) space handle address) target n in
    record {
      plain = ap (λ (room : ℕ). read_at w' left (target room)) k.0 ∙ k.1.plain;
      fast = ap (λ (room : ℕ). fast_read_at w' left (target room)) k.0 ∙ k.1.fast;
    }
