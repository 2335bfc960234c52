-- It stands in front.
use Rattle.std.proofs.Common.{◌≡◌, [], ◌∷◌, Result, OnOk, subst}
use Rattle.cbase.specs.declared.no_memory.NoMemory.{NoMemory}
use Rattle.c_machine.specs.State.{doing}
use Rattle.c_run.proofs.tasks.pushes.alone.Goals as goal

pub returns-in-Ok : goal.returns-in-Ok
returns-in-Ok c = λ fits. (subst (λ (done : Result (Unit {0}) NoMemory). OnOk done (c.do_first.new.self ≡ doing (c.args.task ∷ []) c.args.state.now)) c.in-Ok.is c.do_first.ensures.ok, fits)
