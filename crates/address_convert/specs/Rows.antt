-- Rows with literal numbers of document 01, "Data and byte order" (the CPU address is the PCI
-- address plus the offset, modulo 2^32, by handle) and "Numbers handed back" (-9, and 0 for the
-- address).
use Rattle.std.specs.Prelude.{ℕ, List, [], ◌∷◌, ◌++◌, map, ◌≡◌, ℤ, pos, neg_ℤ, replicate, Result, Ok, Err}
use Rattle.board.specs.Addresses.{bus, cpu, bus_number, cpu_number}
use Rattle.board.specs.Statuses.{refusal_number}
use Rattle.address_convert.specs.Convert.{bus_to_cpu, cpu_to_bus}
use Rattle.board.specs.declared.address.BusAddress.{BusAddress}
use Rattle.board.specs.declared.address.CpuAddress.{CpuAddress}
use Rattle.board.specs.declared.status.CallRefusal.{CallRefusal}

-- a board of two functions: offset F0000000h and dmaoffset 01000000h; offset 00000100h and
-- dmaoffset 00020000h; all else of their records is 0
abbrev two_functions : List ℕ
two_functions = 2 ∷ 0 ∷ 0 ∷ 0 ∷ []

abbrev two_offsets : List ℕ
two_offsets =
    replicate 536 0
    ++ (0xF0 ∷ 0 ∷ 0 ∷ 0 ∷ 0x01 ∷ 0 ∷ 0 ∷ 0 ∷ [])
    ++ replicate 536 0
    ++ (0 ∷ 0 ∷ 0x01 ∷ 0 ∷ 0 ∷ 0x02 ∷ 0 ∷ 0 ∷ [])

-- what is handed back, by number: an address, or a refusal
abbrev at_cpu : Result CpuAddress CallRefusal → Result ℕ ℤ
at_cpu (Ok a) = Ok (cpu_number a)
at_cpu (Err refusal) = Err (refusal_number refusal)

abbrev at_bus : Result BusAddress CallRefusal → Result ℕ ℤ
at_bus (Ok a) = Ok (bus_number a)
at_bus (Err refusal) = Err (refusal_number refusal)

pub record AddressConvertRows : Type 0 where
  -- a bad handle: -9
  pub cpu_refused :
      map (λ h. at_cpu (bus_to_cpu two_functions two_offsets h (bus 0x20000000))) (0 ∷ 3 ∷ 0xFFFFFFFF ∷ [])
      ≡ Err (neg_ℤ (pos 9)) ∷ Err (neg_ℤ (pos 9)) ∷ Err (neg_ℤ (pos 9)) ∷ []
  pub bus_refused :
      map (λ h. at_bus (cpu_to_bus two_functions two_offsets h (cpu 0x20000000))) (0 ∷ 3 ∷ 0xFFFFFFFF ∷ [])
      ≡ Err (neg_ℤ (pos 9)) ∷ Err (neg_ℤ (pos 9)) ∷ Err (neg_ℤ (pos 9)) ∷ []
  -- to the CPU each function's own offset is added, and wraps
  pub cpu_accepted :
      map (λ h. at_cpu (bus_to_cpu two_functions two_offsets h (bus 0x20000000))) (1 ∷ 2 ∷ [])
      ≡ Ok 0x10000000 ∷ Ok 0x20000100 ∷ []
  pub cpu_last :
      map (λ h. at_cpu (bus_to_cpu two_functions two_offsets h (bus 0xFFFFFFFF))) (1 ∷ 2 ∷ [])
      ≡ Ok 0xEFFFFFFF ∷ Ok 0x000000FF ∷ []
  -- to the bus it is taken off, and wraps
  pub bus_accepted :
      map (λ h. at_bus (cpu_to_bus two_functions two_offsets h (cpu 0x10000000))) (1 ∷ 2 ∷ [])
      ≡ Ok 0x20000000 ∷ Ok 0x0FFFFF00 ∷ []
  pub bus_first :
      map (λ h. at_bus (cpu_to_bus two_functions two_offsets h (cpu 0))) (1 ∷ 2 ∷ [])
      ≡ Ok 0x10000000 ∷ Ok 0xFFFFFF00 ∷ []
