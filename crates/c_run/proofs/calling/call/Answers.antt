-- The objects of the parameters, whose sizes are all kept or not.
use Rattle.std.proofs.Common.{ℕ, List, map, refl, ap, sym, ◌∙◌}
use Rattle.std.specs.List.{list_all}
use Rattle.c_machine.specs.declared.object.Object.{Object}
use Rattle.c_machine.specs.declared.task.Task.TheVariants.{MakeParameter}
use Rattle.c_machine.specs.Calls.{body_tasks}
use Rattle.c_machine.specs.Program.{Program, parameters_in}
use Rattle.c_machine.specs.Trees.{function_as, text_of}
use Rattle.c_text.specs.Functions.{parameter_object}
use Rattle.c_text.specs.Kept.{is_sized}
use Rattle.c_run.proofs.CallsMade.{lacks_objects}
use Rattle.c_run.proofs.DefinedFunctions.{objects_of_rows}
use Rattle.c_run.proofs.Rooms.{objects_told, objects_not_told, on_ok}
use Rattle.c_run.proofs.calling.call.Goals as goal

abbrev objects : Program → ℕ → List Object
objects p token = map (parameter_object p) (parameters_in p.handed token)

pub returns-in-None : goal.returns-in-None
returns-in-None c = λ n p choices stands.
    let function = function_as p c.args.function.now in
    lacks_objects MakeParameter function.params (objects p c.token.result) (body_tasks (text_of p) function 0) (λ object. refl)
    (ap (objects p) c.token.ensures ∙ sym (objects_of_rows p (parameters_in p.handed c.args.function.now.token)))
    (objects_not_told _ c.in_ok-parameter_objects.field-0 (objects p c.token.result) c.in-None.is (c.in_ok-parameter_objects.ensures n p stands))

pub returns-in-Some : goal.returns-in-Some
returns-in-Some c = on_ok _ _ c.call_with.result
    (λ stepped calls. λ n p choices stands.
    let told = objects_told _ c.in_ok-parameter_objects.field-0 c.in-Some.params (objects p c.token.result) c.in-Some.is (c.in_ok-parameter_objects.ensures n p stands) in
    let are = c.as_slice.ensures.value ∙ told.0 in
    calls n p choices stands (ap (list_all is_sized) are ∙ told.1)
    (are ∙ ap (objects p) c.token.ensures ∙ sym (objects_of_rows p (parameters_in p.handed c.args.function.now.token))))
    c.call_with.ensures
