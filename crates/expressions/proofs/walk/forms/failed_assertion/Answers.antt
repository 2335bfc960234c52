use Rattle.std.proofs.Common.{[], None, refl, ap, ◌∙◌}
use Rattle.cbase.specs.declared.ctype.CType.TheVariants.{Void as VoidType}
use Rattle.cbase.specs.declared.tree.expr.ExprForm.TheOpen.{AssertFail}
use Rattle.typing.specs.Known.{plain}
use Rattle.expressions.specs.Context.{declared}
use Rattle.expressions.specs.Found.{no_parts}
use Rattle.expressions.specs.Language.{language}
use Rattle.expressions.proofs.ByRule.{assertion_rule}
use Rattle.expressions.proofs.Judging.{each_settled}
use Rattle.expressions.proofs.Walking.{settled_result, nothing_walked}
use Rattle.expressions.proofs.walk.forms.failed_assertion.Goals as goal

pub returns-in-Ok : goal.returns-in-Ok
returns-in-Ok c = λ abi. settled_result abi c.args.node.number c.args.node.place AssertFail no_parts c.args.context.now c.args.context.now _ tt (λ n. []) (λ n. plain VoidType) c.pass.result
    (each_settled c.pass.result (λ n. []) (λ n. plain VoidType) None c.plain.result c.args.node.number c.args.context.now _ _ c.in-Ok.ensures.only_types
    (λ n agrees. refl) (λ n agrees. c.plain.ensures.is n ∙ ap plain (c.in-Ok.ensures.meant n agrees)) c.pass.ensures)
    (nothing_walked abi c.args.context.now)
    (λ n handed outcome agrees settled. assertion_rule (language abi n) (declared c.args.context.now) c.args.node.number c.args.node.place handed outcome settled)
