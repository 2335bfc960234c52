use Rattle.typing.specs.Typing.{ExpressionIs}
use Rattle.expressions.specs.declared.part.Part.TheVariants.{Expression}
use Rattle.expressions.specs.Walked.{Says}
use Rattle.expressions.proofs.Telling.{may_ask, asked, of_expression, expression_of}
use Rattle.expressions.proofs.checker.Checker.ask_expression.Goals as goal

pub inner-requires : goal.inner-requires
inner-requires g c = may_ask c.args.self.now.abi c.args.self.now.depth c.requires.nests (Expression c.args.expr) c.requires.deep _ tt

pub expression_in-requires : goal.expression_in-requires
expression_in-requires g c = of_expression (Says c.args.self.now.abi (ExpressionIs c.args.expr.now)) c.args.context.now _ c.inner.result (asked c.args.self.now.abi c.args.self.now.depth c.requires.nests (Expression c.args.expr) c.requires.deep _ _ c.inner.result c.inner.ensures)

pub returns : goal.returns
returns g c = expression_of (Says c.args.self.now.abi (ExpressionIs c.args.expr.now)) c.args.context.now _ c.inner.result c.expression_in.result c.expression_in.ensures (asked c.args.self.now.abi c.args.self.now.depth c.requires.nests (Expression c.args.expr) c.requires.deep _ _ c.inner.result c.inner.ensures)
