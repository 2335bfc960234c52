-- What is told of the object.
use Rattle.std.proofs.Common.{Some, sym, ap, ◌∙◌}
use Rattle.lowering.proofs.InsideLines.{declared_nothing, declared_object}
use Rattle.lowering.proofs.Onward.{on_ok}
use Rattle.lowering.proofs.declared.declared_moves.Goals as goal

pub returns-in-Some-None : goal.returns-in-Some-None
returns-in-Some-None c = declared_nothing _ c.text.result.now c.args.name.now _ c.text.ensures
    (λ n p stands. sym (c.in-Some-None.is ∙ ap Some c.in-Some-None.field-0-is) ∙ c.automatic.ensures n p stands)

pub returns-in-Some-Some : goal.returns-in-Some-Some
returns-in-Some-Some c = on_ok c.initialised_moves.result
    (declared_object _ c.text.result.now c.args.name.now _ _ _ _ c.text.ensures
    (λ n p stands. sym (c.in-Some-Some.is ∙ ap Some c.in-Some-Some.field-0-is) ∙ c.automatic.ensures n p stands) c.in-Some.is)
    c.initialised_moves.ensures
