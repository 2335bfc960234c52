-- The function that a callee names.
use Rattle.std.proofs.Common.{ℕ, ◌∙◌, List, length, Some, ap, sym, subst}
use Rattle.cbase.specs.declared.tree.expr.ExprForm.TheViews.{out-ExprForm, outs-Name}
use Rattle.typing.specs.environment.Bounds.{EntityBelow}
use Rattle.typing.specs.environment.Environment.{name_found}
use Rattle.typing.specs.declared.environment.entity.Entity.{Entity}
use Rattle.typing.specs.Forms.{name_in}
use Rattle.expressions.proofs.walk.calls.named_function.Goals as goal

pub returns-in-Some-Function-clause-some : goal.returns-in-Some-Function-clause-some
returns-in-Some-Function-clause-some c = (
  ap name_in (ap out-ExprForm c.in-Name.is ∙ outs-Name c.in-Name.name) ∙ ap Some (sym c.as_slice-in-Some-Function.ensures),
  ap (λ (name : List ℕ). name_found name c.args.context.now.environment) (c.as_slice-in-Some-Function.ensures ∙ sym c.as_slice.ensures)
      ∙ (sym c.look_up.ensures.is ∙ (c.in-Some-Function.is ∙ ap Some c.in-Some-Function.field-0-is)),
)

pub returns-in-Some-Function-clause-signature : goal.returns-in-Some-Function-clause-signature
returns-in-Some-Function-clause-signature c =
    subst (λ (entity : Entity). EntityBelow (length c.args.context.now.types) c.args.context.now.environment.signatures entity) c.in-Some-Function.field-0-is c.in-Some-Function.ensures.below
