-- `fault_claims` meets its contract: by the laws of faults.
use Rattle.script.proofs.FaultLaws.{told, first}
use Rattle.script.proofs.fault.fault_claims.Goals as goal

pub returns : goal.returns
returns c = record { told = told; first = first }
