-- The call behind its arguments.
use Rattle.std.proofs.Common.{ℕ, [], ◌∷◌, ◌++◌, List, map, refl, sym, ap, ◌∙◌}
use Rattle.typing.specs.Outcomes.{ParameterRow}
use Rattle.c_machine.specs.declared.kind.Kind.{Kind}
use Rattle.c_machine.specs.declared.task.Task.TheVariants.{CallDefined}
use Rattle.c_machine.specs.Expressions.{argument_tasks}
use Rattle.c_machine.specs.Program.{parameters_in}
use Rattle.c_machine.specs.Trees.{text_of}
use Rattle.c_text.specs.Parameters.{types_by}
use Rattle.c_run.proofs.DefinedFunctions.{kinds_of_rows}
use Rattle.c_run.proofs.tasks.EachArgument.{params_by}
use Rattle.c_run.proofs.tasks.MakingRoom.{on_ok, same_room}
use Rattle.c_run.proofs.tasks.RoomBehind.{in_front}
use Rattle.c_run.proofs.tasks.calls.defined_call.Goals as goal

pub arguments-requires : goal.arguments-requires
arguments-requires c = c.defined_parameters.ensures.are

pub returns : goal.returns
returns c = on_ok _ _ c.arguments.result
    (λ room made. λ n p function stands is. same_room _ (argument_tasks (text_of p) c.args.args.now (params_by p (types_by n p c.defined_parameters.result)) ++ CallDefined c.args.number ∷ []) room
    c.args.state.now c.arguments.new.state
    (ap (λ (kinds : List Kind). argument_tasks (text_of p) c.args.args.now kinds ++ CallDefined c.args.number ∷ [])
    (kinds_of_rows p (parameters_in p.handed function.token)
    ∙ ap (λ (token : ℕ). params_by p (map (λ (row : ParameterRow). row.ctype) (parameters_in p.handed token))) is
    ∙ ap (params_by p) (sym (c.defined_parameters.ensures.types n p stands))))
    (in_front (argument_tasks (text_of p) c.args.args.now (params_by p (types_by n p c.defined_parameters.result))) (CallDefined c.args.number ∷ []) room
    c.args.state.now c.do_first.new.self c.arguments.new.state (c.in_ok-do_first.ensures.ok, refl) (made n p stands)))
    c.arguments.ensures
