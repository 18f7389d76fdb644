-- The address conversions by handle: document 01, "Data and byte order".
use Rattle.std.specs.Prelude.{ℕ, ◌-◌, Bool, cond, List, Result, Ok, Err}
use Rattle.board.specs.Addresses.{cpu_address, bus_address}
use Rattle.board.specs.Handles.{is_handle}
use Rattle.board.specs.Layout.{offset}
use Rattle.board.specs.declared.address.BusAddress.{BusAddress}
use Rattle.board.specs.declared.address.CpuAddress.{CpuAddress}
use Rattle.board.specs.declared.status.CallRefusal.{CallRefusal}
use Rattle.board.specs.declared.status.CallRefusal.TheVariants.{BadHandle}

-- an address for a good handle; a bad one is refused
abbrev pub to_cpu : Bool → ℕ → BusAddress → Result CpuAddress CallRefusal
to_cpu good offset a = cond good (Ok (cpu_address offset a)) (Err BadHandle)

abbrev pub to_bus : Bool → ℕ → CpuAddress → Result BusAddress CallRefusal
to_bus good offset a = cond good (Ok (bus_address offset a)) (Err BadHandle)

-- of the lent parts
abbrev pub offset_of : List ℕ → List ℕ → ℕ → Result ℕ CallRefusal
offset_of header records handle =
    cond (is_handle header handle) (Ok (offset records (handle - 1))) (Err BadHandle)

abbrev pub bus_to_cpu : List ℕ → List ℕ → ℕ → BusAddress → Result CpuAddress CallRefusal
bus_to_cpu header records handle a = to_cpu (is_handle header handle) (offset records (handle - 1)) a

abbrev pub cpu_to_bus : List ℕ → List ℕ → ℕ → CpuAddress → Result BusAddress CallRefusal
cpu_to_bus header records handle a = to_bus (is_handle header handle) (offset records (handle - 1)) a
