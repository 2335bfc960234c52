-- The function of that number, if there is one.
use Rattle.std.proofs.Common.{Option, None, Some, sym, ap}
use Rattle.cbase.specs.declared.tree.stmt.Stmt.{Stmt}
use Rattle.c_machine.specs.Expressions.{body_call}
use Rattle.c_machine.specs.Text.{Function}
use Rattle.c_machine.specs.Trees.{function_as, text_of}
use Rattle.c_run.proofs.DefinedFunctions.{function_found, no_function}
use Rattle.c_run.proofs.tasks.MakingRoom.{on_ok, same_room}
use Rattle.c_run.proofs.tasks.calls.numbered_call.Goals as goal

pub returns-in-None : goal.returns-in-None
returns-in-None c = on_ok _ _ c.unknown.result
    (λ room made. λ n p stands defined. same_room _ (body_call (text_of p) c.args.args.now c.args.number None) room c.args.state.now c.unknown.new.state
    (ap (λ (found : Option (Function Stmt)). body_call (text_of p) c.args.args.now c.args.number found)
    (no_function p c.args.functions.now c.args.number _ c.get.result c.in-None.is c.get.ensures defined)) made)
    c.unknown.ensures

pub returns-in-Some : goal.returns-in-Some
returns-in-Some c = on_ok _ _ c.defined_call.result
    (λ room made. λ n p stands defined. same_room _ (body_call (text_of p) c.args.args.now c.args.number (Some (function_as p c.in-Some.function.now))) room c.args.state.now c.defined_call.new.state
    (ap (λ (found : Option (Function Stmt)). body_call (text_of p) c.args.args.now c.args.number found)
    (function_found p c.args.functions.now c.args.number _ c.get.result c.in-Some.function c.in-Some.is c.get.ensures defined))
    (made n p c.in-Some.function.now stands (sym c.token.ensures)))
    c.defined_call.ensures
