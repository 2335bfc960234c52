-- The step is that of the machine, and speaks of no type.
use Rattle.std.proofs.Common.{refl}
use Rattle.c_run.specs.declared.stepped.Stepped.TheVariants.{Came}
use Rattle.c_run.proofs.MakingSteps.{answered_by}
use Rattle.c_run.proofs.jumps.continue_step.Goals as goal

pub returns : goal.returns
returns c = answered_by Came _ _ c.continue_at.result c.came.result
    (λ outcome comes. λ p choices. (comes choices, refl))
    c.came.ensures c.continue_at.ensures
