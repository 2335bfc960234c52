-- What is told of the object.
use Rattle.std.proofs.Common.{Some, sym, ap, ◌∙◌}
use Rattle.lowering.proofs.Onward.{on_ok}
use Rattle.lower.proofs.ObjectsHere.{declares_none, declares_one}
use Rattle.lower.proofs.placing.objects.push_object.Goals as goal

pub returns-in-Some-None : goal.returns-in-Some-None
returns-in-Some-None c = declares_none c.args.source.now c.text.result.now c.args.name.now c.text.ensures c.args.objects.now
    (λ n p stands. sym (c.in-Some-None.is ∙ ap Some c.in-Some-None.field-0-is) ∙ c.automatic.ensures n p stands)

pub returns-in-Some-Some : goal.returns-in-Some-Some
returns-in-Some-Some c = on_ok c.push.result
    (declares_one c.args.source.now c.text.result.now c.args.name.now c.text.ensures c.args.objects.now c.push.new.self c.in-Some-Some.object
    (λ n p stands. sym (c.in-Some-Some.is ∙ ap Some c.in-Some-Some.field-0-is) ∙ c.automatic.ensures n p stands))
    c.push.ensures.ok
