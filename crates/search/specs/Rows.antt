-- Rows with literal numbers of document 01, "Searching": which functions match, and what an index
-- gives; and of request E1: what is searched for in each call edition.
use Rattle.std.specs.Prelude.{ℕ, Bool, true, false, List, [], ◌∷◌, map, ◌≡◌, ℤ, pos, neg_ℤ, get_or, Result, Ok, Err}
use Rattle.numbers.specs.Numbers.{byte_at}
use Rattle.board.specs.Statuses.{refusal_number}
use Rattle.board.specs.declared.status.CallRefusal.{CallRefusal}
use Rattle.board.specs.declared.status.CallRefusal.TheVariants.{BadVendorId}
use Rattle.call_edition.specs.Edition.{in_edition}
use Rattle.search.specs.Search.{
  device_matches,
  class_matches,
  devices,
  classes,
  searched,
  search_number,
  Sought,
  handles,
  refused_with,
  sought_devices,
  sought_classes,
  sought_at,
  sought_number,
}

-- the first registers of a function of vendor 1234h, device 5678h, revision 44h, class 112233h; and
-- of one of vendor 1235h, device 5679h, class 112333h
abbrev card : List ℕ
card = 0x34 ∷ 0x12 ∷ 0x78 ∷ 0x56 ∷ 0 ∷ 0 ∷ 0 ∷ 0 ∷ 0x44 ∷ 0x33 ∷ 0x22 ∷ 0x11 ∷ 0x55 ∷ []

abbrev other : List ℕ
other = 0x35 ∷ 0x12 ∷ 0x79 ∷ 0x56 ∷ 0 ∷ 0 ∷ 0 ∷ 0 ∷ 0x44 ∷ 0x33 ∷ 0x23 ∷ 0x11 ∷ 0x55 ∷ []

-- the registers of three functions, by place: the second is the other one
abbrev cards : ℕ → ℕ → ℕ
cards i = byte_at (get_or (card ∷ other ∷ card ∷ []) i [])

abbrev has_device : ℕ → Bool
has_device id = device_matches id (byte_at card)

abbrev has_class : ℕ → Bool
has_class class = class_matches class (byte_at card)

-- an answer, and what is sought, with the number of a refusal in place of its name
abbrev numbered : Result ℕ CallRefusal → Result ℕ ℤ
numbered (Ok handle) = Ok handle
numbered (Err refusal) = Err (refusal_number refusal)

abbrev in_numbers : Sought → Result (List ℕ) ℤ
in_numbers (handles hs) = Ok hs
in_numbers (refused_with refusal) = Err (refusal_number refusal)

-- what is sought among them
abbrev sought : ℕ → ℕ → Result (List ℕ) ℤ
sought edition id = in_numbers (sought_devices (in_edition id edition) 3 cards)

abbrev sought_class : ℕ → ℕ → Result (List ℕ) ℤ
sought_class edition class = in_numbers (sought_classes (in_edition class edition) 3 cards)

pub record SearchRows : Type 0 where
  -- device ID in bits 31..16, vendor in 15..0
  pub device_and_vendor : map has_device
      (0x56781234 ∷ 0x12345678 ∷ 0x78563412 ∷ 0x56781235 ∷ 0x56791234 ∷ [])
      ≡ true ∷ false ∷ false ∷ false ∷ false ∷ []
  -- vendor FFFFh matches all and the device ID is then ignored
  pub any_vendor : map has_device (0x0000FFFF ∷ 0x1234FFFF ∷ 0xFFFFFFFF ∷ 0x5678FFFE ∷ [])
      ≡ true ∷ true ∷ true ∷ false ∷ []
  -- device FFFFh is one like any other: of vendor 0F0Fh and devices 0001h, FFFFh
  pub device_ffff : map (λ function. device_matches 0xFFFF0F0F (byte_at function))
      ((0x0F ∷ 0x0F ∷ 0x01 ∷ 0x00 ∷ []) ∷ (0x0F ∷ 0x0F ∷ 0xFF ∷ 0xFF ∷ []) ∷ [])
      ≡ false ∷ true ∷ []
  -- class in bits 23..0: base, sub, programming interface
  pub class_bytes : map has_class
      (0x00112233 ∷ 0x00332211 ∷ 0x00FF2233 ∷ 0x0011FF33 ∷ 0x001122FF ∷ [])
      ≡ true ∷ false ∷ false ∷ false ∷ false ∷ []
  -- bit 26 ignores the base, bit 25 the sub class, bit 24 the programming interface
  pub bit26 : map has_class (0x04FF2233 ∷ 0x0411FF33 ∷ 0x041122FF ∷ [])
      ≡ true ∷ false ∷ false ∷ []
  pub bit25 : map has_class (0x02FF2233 ∷ 0x0211FF33 ∷ 0x021122FF ∷ [])
      ≡ false ∷ true ∷ false ∷ []
  pub bit24 : map has_class (0x01FF2233 ∷ 0x0111FF33 ∷ 0x011122FF ∷ [])
      ≡ false ∷ false ∷ true ∷ []
  -- bits 31..27 play no part, alone and beside the others
  pub bit27 : map has_class (0x08112233 ∷ 0x08FF2233 ∷ 0x0811FF33 ∷ 0x081122FF ∷ [])
      ≡ true ∷ false ∷ false ∷ false ∷ []
  pub bits31_to27 : map has_class (0xF8112233 ∷ 0xFCFF2233 ∷ 0xFA11FF33 ∷ 0xF91122FF ∷ [])
      ≡ true ∷ true ∷ true ∷ true ∷ []
  -- the matches in table order, among the functions that there are
  pub table_order : map (λ count. devices 0x56781234 count cards) (0 ∷ 1 ∷ 2 ∷ 3 ∷ [])
      ≡ [] ∷ (1 ∷ []) ∷ (1 ∷ []) ∷ (1 ∷ 3 ∷ []) ∷ []
  pub every_function : devices 0x1234FFFF 3 cards ≡ 1 ∷ 2 ∷ 3 ∷ []
  pub by_class : map (λ class. classes class 3 cards) (0x00112333 ∷ 0x00112233 ∷ 0x02110033 ∷ [])
      ≡ (2 ∷ []) ∷ (1 ∷ 3 ∷ []) ∷ (1 ∷ 2 ∷ 3 ∷ []) ∷ []
  -- index n gives the match with exactly n matches before it, -4 if there are n or fewer
  pub index : map (λ n. numbered (searched (devices 0x56781234 3 cards) n))
      (0 ∷ 1 ∷ 2 ∷ 3 ∷ 0xFFFFFFFF ∷ [])
      ≡ Ok 1 ∷ Ok 3 ∷ Err (neg_ℤ (pos 4)) ∷ Err (neg_ℤ (pos 4)) ∷ Err (neg_ℤ (pos 4)) ∷ []
  pub number : map (search_number (devices 0x56781234 3 cards))
      (0 ∷ 1 ∷ 2 ∷ 3 ∷ 0xFFFFFFFF ∷ [])
      ≡ pos 1 ∷ pos 3 ∷ neg_ℤ (pos 4) ∷ neg_ℤ (pos 4) ∷ neg_ℤ (pos 4) ∷ []
  pub no_match : numbered (searched (devices 0x00010002 3 cards) 0) ≡ Err (neg_ℤ (pos 4))
  -- in draft 1.9 the vendor stands in bits 31..16, and FFFFh is refused there and only there
  pub draft_devices : map (sought 1) (0x12345678 ∷ 0x56781234 ∷ 0x12355679 ∷ [])
      ≡ Ok (1 ∷ 3 ∷ []) ∷ Ok [] ∷ Ok (2 ∷ []) ∷ []
  pub draft_vendors : map (sought 1) (0xFFFF5678 ∷ 0xFFFFFFFF ∷ 0xFFFE5678 ∷ 0x1234FFFF ∷ [])
      ≡ Err (neg_ℤ (pos 3)) ∷ Err (neg_ℤ (pos 3)) ∷ Ok [] ∷ Ok [] ∷ []
  -- an unknown edition before vendor FFFFh, which in the later text stands in bits 15..0
  pub device_editions : map (λ e. sought e 0xFFFF1234) (0 ∷ 1 ∷ 2 ∷ 3 ∷ 0x101 ∷ [])
      ≡ Err (neg_ℤ (pos 2)) ∷ Err (neg_ℤ (pos 3)) ∷ Ok [] ∷ Err (neg_ℤ (pos 2))
      ∷ Err (neg_ℤ (pos 2)) ∷ []
  -- class bits 31..24 play no part in draft 1.9: all three bytes are compared
  pub draft_classes : map (sought_class 1) (0x00112233 ∷ 0xFF112233 ∷ 0x04FF2233 ∷ [])
      ≡ Ok (1 ∷ 3 ∷ []) ∷ Ok (1 ∷ 3 ∷ []) ∷ Ok [] ∷ []
  pub class_editions : map (λ e. sought_class e 0x04FF2233) (0 ∷ 1 ∷ 2 ∷ 3 ∷ 0x102 ∷ [])
      ≡ Err (neg_ℤ (pos 2)) ∷ Ok [] ∷ Ok (1 ∷ 3 ∷ []) ∷ Err (neg_ℤ (pos 2))
      ∷ Err (neg_ℤ (pos 2)) ∷ []
  -- a refusal at every index
  pub sought_refused : map (λ n. numbered (sought_at (refused_with BadVendorId) n)) (0 ∷ 7 ∷ [])
      ≡ Err (neg_ℤ (pos 3)) ∷ Err (neg_ℤ (pos 3)) ∷ []
  pub refused_number : map (sought_number (refused_with BadVendorId)) (0 ∷ 7 ∷ [])
      ≡ neg_ℤ (pos 3) ∷ neg_ℤ (pos 3) ∷ []
  pub sought_found : map (λ n. numbered (sought_at (handles (1 ∷ 3 ∷ [])) n)) (0 ∷ 1 ∷ 2 ∷ [])
      ≡ Ok 1 ∷ Ok 3 ∷ Err (neg_ℤ (pos 4)) ∷ []
