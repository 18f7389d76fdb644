-- Bus addresses and CPU addresses: document 01, "Data and byte order".
use Rattle.std.specs.Prelude.{ℕ, ◌+◌, ◌-◌, ◌%◌, ◌^◌}
use Rattle.board.specs.declared.address.BusAddress.{BusAddress}
use Rattle.board.specs.declared.address.CpuAddress.{CpuAddress}

-- an address of a number
abbrev pub bus : ℕ → BusAddress
bus a = record { 0 = a }

abbrev pub cpu : ℕ → CpuAddress
cpu a = record { 0 = a }

-- and back
abbrev pub bus_number : BusAddress → ℕ
bus_number a = a.0

abbrev pub cpu_number : CpuAddress → ℕ
cpu_number a = a.0

-- the CPU address is the PCI address plus the offset, modulo 2^32
abbrev pub cpu_address : ℕ → BusAddress → CpuAddress
cpu_address offset a = record { 0 = (a.0 + offset) % 2 ^ 32 }

abbrev pub bus_address : ℕ → CpuAddress → BusAddress
bus_address offset a = record { 0 = (a.0 + (2 ^ 32 - offset)) % 2 ^ 32 }
