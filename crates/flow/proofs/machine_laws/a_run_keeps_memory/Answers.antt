use Rattle.flow.proofs.MemoryRuns.{runs_keep_memory}
use Rattle.flow.proofs.machine_laws.a_run_keeps_memory.Goals as goal

pub returns : goal.returns
returns c = runs_keep_memory
