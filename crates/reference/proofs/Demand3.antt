-- Demand 3: the four claims as one.
use Rattle.reference.specs.Claims.{Demand3}
use Rattle.reference.proofs.Refusal.{refusal}
use Rattle.reference.proofs.Refinement.{refinement}
use Rattle.reference.proofs.Frame.{frame}
use Rattle.reference.proofs.NonInterference.{non_interference_lem}

pub demand_3 : Demand3
demand_3 =
    record { refusal = refusal; refinement = refinement; frame = frame; non_interference = non_interference_lem refinement }
