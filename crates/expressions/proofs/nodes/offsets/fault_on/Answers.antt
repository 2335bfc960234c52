use Rattle.std.proofs.Common.{ℕ, [], ap, Result}
use Rattle.typing.specs.declared.fault.Fault.{Fault}
use Rattle.typing.specs.Paths.{way_faults}
use Rattle.expressions.specs.Ways.{way_of}
use Rattle.expressions.proofs.nodes.offsets.fault_on.Goals as goal

pub returns-in-Err : goal.returns-in-Err
returns-in-Err c = record { front = []; back = []; whole = ap (λ (way : Result ℕ Fault). way_faults (way_of way)) c.in-Err.is; later = tt; behind = tt }
