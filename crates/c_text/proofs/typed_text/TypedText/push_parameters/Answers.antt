-- One parameter behind the other.
use Rattle.std.proofs.Common.{Bool, List, [], ◌∷◌, ◌++◌, map, Option, option_map, Some, ap, ◌∙◌, append-nil, subst}
use Rattle.typing.specs.Outcomes.{ParameterRow}
use Rattle.c_machine.specs.declared.object.Object.{Object}
use Rattle.c_text.specs.Functions.{parameter_object}
use Rattle.c_text.specs.Kept.{all_there, sized, IsPushed}
use Rattle.c_text.proofs.PushedObjects.{one_lacks, one_more}
use Rattle.c_text.proofs.typed_text.TypedText.push_parameters.Goals as goal

pub loop-object-preserved : goal.loop-object-preserved
loop-object-preserved c = λ n p stands.
    c.loop-object.invariant n p stands
    ∙ ap (λ (sizes : List (Option Object)). option_map (λ (more : List Object). c.loop-object.objects.items ++ more) (all_there sizes))
    (c.in-Some.ensures.some n p stands)
    ∙ one_more c.loop-object.objects.items c.in-Some.object c.push_object.new.objects.items _
    (subst (λ (whole : Bool). IsPushed c.loop-object.objects.items (c.in-Some.object ∷ []) whole c.push_object.new.objects.items) c.if-branch.true
    c.in_ok-push_object.ensures)

pub returns-else-branch : goal.returns-else-branch
returns-else-branch c = λ n p stands.
    c.loop-object.invariant n p stands
    ∙ ap (λ (sizes : List (Option Object)). option_map (λ (more : List Object). c.loop-object.objects.items ++ more) (all_there sizes))
    (c.in-Some.ensures.some n p stands)
    ∙ one_lacks c.loop-object.objects.items c.in-Some.object c.push_object.new.objects.items _
    (subst (λ (whole : Bool). IsPushed c.loop-object.objects.items (c.in-Some.object ∷ []) whole c.push_object.new.objects.items) c.if-branch.false
    c.in_ok-push_object.ensures)

pub returns : goal.returns
returns c = λ n p stands.
    c.loop-object.invariant n p stands
    ∙ ap (λ (params : List ParameterRow).
    option_map (λ (more : List Object). c.loop-object.objects.items ++ more) (all_there (map (λ (param : ParameterRow). sized (parameter_object p param)) params)))
    (c.in_default.ensures.none n p stands)
    ∙ ap Some (append-nil c.loop-object.objects.items)
