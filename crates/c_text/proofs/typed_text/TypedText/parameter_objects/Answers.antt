-- The objects of all parameters, or not.
use Rattle.std.proofs.Common.{Bool, true, false, [], map, subst}
use Rattle.typing.specs.Outcomes.{ParameterRow}
use Rattle.c_machine.specs.Program.{parameters_in}
use Rattle.c_text.specs.Functions.{parameter_object}
use Rattle.c_text.specs.Kept.{sized, IsPushed}
use Rattle.c_text.proofs.PushedObjects.{pushed_whole}
use Rattle.c_text.proofs.typed_text.TypedText.parameter_objects.Goals as goal

pub returns-then-branch : goal.returns-then-branch
returns-then-branch c = λ n p stands.
    pushed_whole (parameter_object p) (parameters_in p.handed c.args.token) true c.push_parameters_of.new.objects.items
    (subst (λ (whole : Bool). IsPushed [] (map (λ (param : ParameterRow). sized (parameter_object p param)) (parameters_in p.handed c.args.token)) whole
    c.push_parameters_of.new.objects.items) c.if-branch.true (c.in_ok-push_parameters_of.ensures n p stands))

pub returns-else-branch : goal.returns-else-branch
returns-else-branch c = λ n p stands.
    pushed_whole (parameter_object p) (parameters_in p.handed c.args.token) false c.push_parameters_of.new.objects.items
    (subst (λ (whole : Bool). IsPushed [] (map (λ (param : ParameterRow). sized (parameter_object p param)) (parameters_in p.handed c.args.token)) whole
    c.push_parameters_of.new.objects.items) c.if-branch.false (c.in_ok-push_parameters_of.ensures n p stands))
