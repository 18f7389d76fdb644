-- Laws of the two kinds of address: the way there and the way back undo each other.
use Rattle.std.proofs.Common.{◌≡◌, ℕ, ◌^◌, ◌<◌, ◌≤◌, arith}
use Rattle.board.specs.declared.address.BusAddress.{BusAddress}
use Rattle.board.specs.declared.address.CpuAddress.{CpuAddress}
use Rattle.board.specs.Addresses.{cpu_address, bus_address}

-- a bus address comes back from its CPU address
pub there_and_back : (offset : ℕ) (a : BusAddress) → a.0 < 2 ^ 32 → offset ≤ 2 ^ 32 → bus_address offset (cpu_address offset a) ≡ a
there_and_back offset a h k =
    let e : (bus_address offset (cpu_address offset a)).0 ≡ a.0 = omega arith in
    rw e

-- a CPU address comes back from its bus address
pub back_and_there : (offset : ℕ) (a : CpuAddress) → a.0 < 2 ^ 32 → offset ≤ 2 ^ 32 → cpu_address offset (bus_address offset a) ≡ a
back_and_there offset a h k =
    let e : (cpu_address offset (bus_address offset a)).0 ≡ a.0 = omega arith in
    rw e
