-- Searching: document 01, "Searching"; in two call editions: request E1.
use Rattle.std.specs.Prelude.{ℕ, zero, suc, ◌+◌, ◌/◌, ◌%◌, ◌^◌, Bool, cond, ◌&&◌, ◌||◌, List, [], ◌∷◌, ◌≡◌, eqb, ℤ, pos, Result, Ok, Err}
use Rattle.numbers.specs.Numbers.{little, bit}
use Rattle.board.specs.Statuses.{refusal_number}
use Rattle.board.specs.declared.status.CallRefusal.{CallRefusal}
use Rattle.board.specs.declared.status.CallRefusal.TheVariants.{
  FuncNotSupported,
  BadVendorId,
  DeviceNotFound,
}
use Rattle.call_edition.specs.Edition.{is_known, is_bad_vendor, id_of, class_of}
use Rattle.call_edition.specs.declared.edition.InEdition.{InEdition}

-- a function's registers r against a device ID in bits 31..16 and a vendor in 15..0; vendor FFFFh
-- matches all
abbrev pub device_matches : ℕ → (ℕ → ℕ) → Bool
device_matches id r =
    eqb (id % 2 ^ 16) 0xFFFF
    || (eqb (little 2 r 0x00) (id % 2 ^ 16) && eqb (little 2 r 0x02) (id / 2 ^ 16))

-- against a class in bits 23..0; bits 26, 25, 24 set mean ignore base, sub, programming interface;
-- bits 31..27 play no part
abbrev pub class_matches : ℕ → (ℕ → ℕ) → Bool
class_matches class r =
    ((bit 26 class || eqb (r 0x0B) (class / 2 ^ 16 % 256))
    && (bit 25 class || eqb (r 0x0A) (class / 2 ^ 8 % 256)))
    && (bit 24 class || eqb (r 0x09) (class % 256))

-- the handles of the functions that match, in table order: of n functions from place i on
unfoldable pub matching : (ℕ → Bool) → ℕ → ℕ → List ℕ
matching m i zero = []
matching m i (suc n) =
    cond (m i) ((i + 1) ∷ matching m (i + 1) n)
    (matching m (i + 1) n)

-- of a count of functions with registers r
abbrev pub devices : ℕ → ℕ → (ℕ → ℕ → ℕ) → List ℕ
devices id count r = matching (λ i. device_matches id (r i)) 0 count

abbrev pub classes : ℕ → ℕ → (ℕ → ℕ → ℕ) → List ℕ
classes class count r = matching (λ i. class_matches class (r i)) 0 count

-- the handle found, or a refusal
abbrev pub Search : Type 0
Search = Result ℕ CallRefusal

-- index n gives the match with n matches before it
unfoldable pub searched : List ℕ → ℕ → Search
searched [] n = Err DeviceNotFound
searched (h ∷ hs) zero = Ok h
searched (h ∷ hs) (suc n) = searched hs n

-- the number of an answer
abbrev pub found_number : Search → ℤ
found_number (Ok handle) = pos handle
found_number (Err refusal) = refusal_number refusal

-- document 01's number for index n: the handle, or -4
unfoldable pub search_number : List ℕ → ℕ → ℤ
search_number [] n = refusal_number DeviceNotFound
search_number (h ∷ hs) zero = pos h
search_number (h ∷ hs) (suc n) = search_number hs n

-- what a search goes through: the handles that match, or a refusal before any function is
-- looked at
pub data Sought : Type 0 where
  handles : List ℕ → Sought
  refused_with : CallRefusal → Sought

-- in the edition that the caller names: an unknown one before all else, then vendor FFFFh of
-- draft 1.9
abbrev pub sought_devices : InEdition → ℕ → (ℕ → ℕ → ℕ) → Sought
sought_devices id count r =
    cond (is_known id)
    (cond (is_bad_vendor id) (refused_with BadVendorId) (handles (devices (id_of id) count r)))
    (refused_with FuncNotSupported)

abbrev pub sought_classes : InEdition → ℕ → (ℕ → ℕ → ℕ) → Sought
sought_classes class count r =
    cond (is_known class) (handles (classes (class_of class) count r)) (refused_with FuncNotSupported)

-- the answer of index n, and its number
unfoldable pub sought_at : Sought → ℕ → Search
sought_at (handles hs) n = searched hs n
sought_at (refused_with refusal) n = Err refusal

unfoldable pub sought_number : Sought → ℕ → ℤ
sought_number (handles hs) n = search_number hs n
sought_number (refused_with refusal) n = refusal_number refusal

-- an answer is that of index n, and has its number
pub record Finds (s : Sought) (n : ℕ) (r : Search) : Type 0 where
  pub answer : r ≡ sought_at s n
  pub number : found_number r ≡ sought_number s n
