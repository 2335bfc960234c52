-- The function of that number, if there is one.
use Rattle.std.proofs.Common.{None, Some, refl}
use Rattle.c_machine.specs.Trees.{function_as, text_of}
use Rattle.c_steps.specs.declared.outcome.Outcome.TheVariants.{Stuck}
use Rattle.c_run.specs.declared.stepped.Stepped.TheVariants.{Came}
use Rattle.c_run.proofs.CallsMade.{is_call}
use Rattle.c_run.proofs.DefinedFunctions.{function_found, no_function}
use Rattle.c_run.proofs.Rooms.{on_ok}
use Rattle.c_run.proofs.calling.call_step.Goals as goal

pub returns-in-None : goal.returns-in-None
returns-in-None c = λ n p choices stands defined.
    is_call (text_of p) c.args.number None (Came Stuck) c.args.state.now c.args.state.now choices choices
    (no_function p c.args.functions.now c.args.number _ c.get.result c.in-None.is c.get.ensures defined) (refl, refl)

pub returns-in-Some : goal.returns-in-Some
returns-in-Some c = on_ok _ _ c.call.result
    (λ stepped calls. λ n p choices stands defined.
    is_call (text_of p) c.args.number (Some (function_as p c.in-Some.function.now)) stepped c.args.state.now c.call.new.state choices choices
    (function_found p c.args.functions.now c.args.number _ c.get.result c.in-Some.function c.in-Some.is c.get.ensures defined)
    (calls n p choices stands))
    c.call.ensures
