-- The function begins, and there is room for what is to be done in it.
use Rattle.std.proofs.Common.{length, refl, arith}
use Rattle.c_machine.specs.Trees.{function_as, text_of}
use Rattle.c_run.specs.Stepped.{stepped_by}
use Rattle.c_run.proofs.CallsMade.{calls_so, many_params}
use Rattle.c_run.proofs.MakingSteps.{answered_by}
use Rattle.c_run.proofs.calling.call_with.Goals as goal

pub returns : goal.returns
returns c = answered_by stepped_by _ _ c.function_tasks.result c.stepped_by.result
    (λ room made. λ n p choices stands fit are.
    calls_so (text_of p) (function_as p c.args.function.now) room c.args.state.now c.call.new.self c.function_tasks.new.state (length c.args.params.now) c.saturating_sub-held.result choices
    (many_params (function_as p c.args.function.now).params c.args.params.now (length c.args.params.now) refl are) (omega (arith, c.saturating_sub-held.ensures, c.held.ensures)) c.in_ok-call.ensures.ok
    (made n p stands fit are))
    c.stepped_by.ensures c.function_tasks.ensures
