-- The parameters of main, whose sizes are all kept or not.
use Rattle.std.proofs.Common.{ℕ, List, map, refl, ap, sym, ◌∙◌}
use Rattle.std.specs.List.{list_all}
use Rattle.c_machine.specs.declared.object.Object.{Object}
use Rattle.c_machine.specs.declared.task.Task.TheVariants.{MakeObject}
use Rattle.c_machine.specs.Calls.{body_tasks}
use Rattle.c_machine.specs.Program.{Program, parameters_in}
use Rattle.c_machine.specs.Trees.{function_as, text_of}
use Rattle.c_text.specs.Functions.{parameter_object}
use Rattle.c_text.specs.Kept.{is_sized}
use Rattle.c_run.proofs.CallsMade.{lacks_objects}
use Rattle.c_run.proofs.DefinedFunctions.{objects_of_rows}
use Rattle.c_run.proofs.Rooms.{objects_told, objects_not_told, on_ok}
use Rattle.c_run.proofs.starting.main_tasks.Goals as goal

abbrev objects : Program → ℕ → List Object
objects p token = map (parameter_object p) (parameters_in p.handed token)

pub returns-in-None : goal.returns-in-None
returns-in-None c = λ n p stands.
    let main = function_as p c.args.main.now in
    lacks_objects MakeObject main.params (objects p c.token.result) (body_tasks (text_of p) main 0) (λ object. refl)
    (ap (objects p) c.token.ensures ∙ sym (objects_of_rows p (parameters_in p.handed c.args.main.now.token)))
    (objects_not_told _ c.in_ok-parameter_objects.field-0 (objects p c.token.result) c.in-None.is (c.in_ok-parameter_objects.ensures n p stands))

pub returns-in-Some : goal.returns-in-Some
returns-in-Some c = on_ok _ _ c.with_objects.result
    (λ room made. λ n p stands.
    let told = objects_told _ c.in_ok-parameter_objects.field-0 c.in-Some.params (objects p c.token.result) c.in-Some.is (c.in_ok-parameter_objects.ensures n p stands) in
    let are = c.as_slice.ensures.value ∙ told.0 in
    made n p stands (ap (list_all is_sized) are ∙ told.1)
    (are ∙ ap (objects p) c.token.ensures ∙ sym (objects_of_rows p (parameters_in p.handed c.args.main.now.token))))
    c.with_objects.ensures
