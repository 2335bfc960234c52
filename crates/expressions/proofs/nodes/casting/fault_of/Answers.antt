-- What is broken is one thing alone.
use Rattle.std.proofs.Common.{ap}
use Rattle.typing.specs.declared.ctypes.found.Outcome.{Outcome}
use Rattle.typing.specs.Faults.{faults_of}
use Rattle.expressions.specs.Numbers.{judgement_at}
use Rattle.expressions.proofs.Firsts.{first_alone}
use Rattle.expressions.proofs.nodes.casting.fault_of.Goals as goal

pub returns-in-Broken : goal.returns-in-Broken
returns-in-Broken c = λ n. first_alone _ _ (ap (λ (outcome : Outcome). faults_of c.args.place (judgement_at n outcome)) c.in-Broken.is)
