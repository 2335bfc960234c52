use Rattle.flow.proofs.MemorySteps.{steps_keep_memory}
use Rattle.flow.proofs.machine_laws.a_step_keeps_memory.Goals as goal

pub returns : goal.returns
returns c = steps_keep_memory
