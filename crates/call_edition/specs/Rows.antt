-- Rows with literal numbers of request E1 and document 000: which editions are known, what is
-- searched for, and which bus address is named, in each edition.
use Rattle.std.specs.Prelude.{true, false, [], ◌∷◌, map, Some, None, ◌≡◌}
use Rattle.board.specs.Addresses.{bus}
use Rattle.call_edition.specs.Edition.{
  in_edition,
  in_draft,
  in_later,
  is_known,
  is_bad_vendor,
  id_of,
  class_of,
  bus_of,
  named_bus,
}

pub record CallEditionRows : Type 0 where
  -- 1 is draft 1.9, 2 the later text, any other number is refused; 102h is not 2
  pub known :
      map (λ e. is_known (in_edition 0 e)) (0 ∷ 1 ∷ 2 ∷ 3 ∷ 0x101 ∷ 0x102 ∷ 0xFFFFFFFF ∷ [])
      ≡ false ∷ true ∷ true ∷ false ∷ false ∷ false ∷ false ∷ []
  -- vendor FFFFh of draft 1.9, in bits 31..16, whatever the device ID
  pub bad_vendors :
      map (λ n. is_bad_vendor (in_draft n))
      (0xFFFF0001 ∷ 0xFFFF0000 ∷ 0xFFFFFFFF ∷ 0xFFFEFFFF ∷ 0x0000FFFF ∷ 0x0F0FFFFF ∷ [])
      ≡ true ∷ true ∷ true ∷ false ∷ false ∷ false ∷ []
  -- and of no other edition
  pub good_vendors :
      map (λ e. is_bad_vendor (in_edition 0xFFFF0001 e)) (0 ∷ 1 ∷ 2 ∷ 3 ∷ [])
      ≡ false ∷ true ∷ false ∷ false ∷ []
  -- device ID in bits 15..0 and vendor in 31..16, and the other way round
  pub draft_ids :
      map (λ n. id_of (in_draft n)) (0x0F0F0001 ∷ 0x00010F0F ∷ 0x0000FFFF ∷ 0x12345678 ∷ [])
      ≡ 0x00010F0F ∷ 0x0F0F0001 ∷ 0xFFFF0000 ∷ 0x56781234 ∷ []
  pub later_ids :
      map (λ n. id_of (in_later n)) (0x0F0F0001 ∷ 0x0000FFFF ∷ 0x12345678 ∷ [])
      ≡ 0x0F0F0001 ∷ 0x0000FFFF ∷ 0x12345678 ∷ []
  -- class bits 31..24 play no part
  pub draft_classes :
      map (λ n. class_of (in_draft n)) (0x01118055 ∷ 0xFF118000 ∷ 0x00FFFFFF ∷ 0x01000000 ∷ [])
      ≡ 0x00118055 ∷ 0x00118000 ∷ 0x00FFFFFF ∷ 0x00000000 ∷ []
  pub later_classes :
      map (λ n. class_of (in_later n)) (0x01118055 ∷ 0xFF118000 ∷ [])
      ≡ 0x01118055 ∷ 0xFF118000 ∷ []
  -- the CPU address less the offset: F0000000h, at both sides of the wrap
  pub draft_addresses :
      map (λ n. bus_of 0xF0000000 (in_draft n))
      (0x700003FC ∷ 0x70000400 ∷ 0xEFFFFFFF ∷ 0xF0000000 ∷ 0xFFFFFFFF ∷ [])
      ≡ bus 0x800003FC ∷ bus 0x80000400 ∷ bus 0xFFFFFFFF ∷ bus 0x00000000 ∷ bus 0x0FFFFFFF ∷ []
  -- 400h: CPU address 0 is bus address FFFFFC00h, 400h is 0
  pub small_offset :
      map (λ n. bus_of 0x400 (in_draft n)) (0x0 ∷ 0x3FF ∷ 0x400 ∷ [])
      ≡ bus 0xFFFFFC00 ∷ bus 0xFFFFFFFF ∷ bus 0x0 ∷ []
  -- the later text has bus addresses, whatever the offset
  pub later_addresses :
      map (λ n. bus_of 0xF0000000 (in_later n)) (0x700003FC ∷ 0x800003FC ∷ [])
      ≡ bus 0x700003FC ∷ bus 0x800003FC ∷ []
  -- a data call names none in an edition that is not known
  pub named_addresses :
      map (λ e. named_bus 0x400 (in_edition 0x400 e)) (0 ∷ 1 ∷ 2 ∷ 3 ∷ 0x102 ∷ [])
      ≡ None ∷ Some (bus 0x0) ∷ Some (bus 0x400) ∷ None ∷ None ∷ []
