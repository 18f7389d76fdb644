-- What the checks and configuration reads mean (document 01, "Registers" and "Numbers handed
-- back"): statements alone, proved in proofs/Targets.antt and proofs/Fast.antt.
use Rattle.std.specs.Prelude.{ℕ, ◌+◌, ◌-◌, ◌^◌, ◌<◌, ◌≤◌, Bool, true, false, List, ◌↔◌, ◌≡◌, Ok}
use Rattle.board.specs.Handles.{is_handle}
use Rattle.board.specs.Layout.{functions_max, registers_each}
use Rattle.board.specs.Reads.{value_of}
use Rattle.board.specs.Statuses.{number_of, successful}
use Rattle.config_read.specs.Target.{target}
use Rattle.config_read.specs.Read.{read_config, fast_read_config}

-- an accepted access is for one of the 16 functions that the lent parts have room for
abbrev pub InsideTable : Type 0
InsideTable =
    (header : List ℕ) (w handle register i : ℕ)
    → target (is_handle header handle) w handle register ≡ Ok i
    → i < functions_max

-- no accepted access passes FFh
abbrev pub InsideRegisters : Type 0
InsideRegisters =
    (good : Bool) (w handle register i : ℕ)
    → target good w handle register ≡ Ok i
    → register + w ≤ registers_each

-- an accepted fast read equals the plain read; a refused one is refused as the plain read is, and
-- gives all ones of its width
abbrev pub FastReadAgrees : Type 0
FastReadAgrees =
    (w : ℕ) (header registers : List ℕ) (handle register : ℕ)
    → (((fast_read_config w header registers handle register).fault ≡ false)
    ↔ (number_of (read_config w header registers handle register) ≡ number_of successful))
    × (((fast_read_config w header registers handle register).fault ≡ false
    → (fast_read_config w header registers handle register).value
    ≡ value_of (read_config w header registers handle register))
    × ((fast_read_config w header registers handle register).fault ≡ true
    → (fast_read_config w header registers handle register).value ≡ 256 ^ w - 1))
