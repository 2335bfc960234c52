-- A form of two operands: these, and what is found behind them.
use Rattle.std.proofs.Common.{◌≤◌, refl, sym, subst, Ok}
use Rattle.cbase.specs.declared.tree.expr.Expr.{Expr}
use Rattle.ctrees.specs.Levels.{expr_levels}
use Rattle.expressions.specs.declared.found.Found.TheVariants.{Refused}
use Rattle.expressions.specs.Found.{two_operands}
use Rattle.expressions.specs.Shapes.{pair_form}
use Rattle.expressions.proofs.Behind.{pair_walked, found_behind}
use Rattle.expressions.proofs.Walking.{form_alike, passed_of, refused_form}
use Rattle.expressions.proofs.checker.Checker.pair.Goals as goal

pub returns-in-Ok-Passes : goal.returns-in-Ok-Passes
returns-in-Ok-Passes g c = form_alike c.args.self.now.abi c.args.node.number c.args.node.place (pair_form c.args.pair c.get-left.result.now c.get-right.result.now) (pair_form c.args.pair c.args.left.now c.args.right.now) c.args.context.now _ c.pair_node.result
    (λ i. pair_form c.args.pair (c.get-left.ensures i) (c.get-right.ensures i))
    (found_behind c.args.self.now.abi c.args.node.number c.args.node.place (pair_form c.args.pair c.get-left.result.now c.get-right.result.now) two_operands c.args.context.now c.two.new.context _ (c.in-Ok-Passes.a, c.in-Ok-Passes.b) c.pair_node.result
    (c.pair_node.ensures c.args.self.now.abi c.get-left.result.now c.get-right.result.now refl)
    (passed_of _ _ _ _ _ c.in-Ok-Passes.field-0 c.in-Ok-Passes.field-0-is (pair_walked c.args.self.now.abi c.args.pair c.get-left.result.now c.get-right.result.now c.args.context.now c.two.new.context c.in-Ok-Passes.field-0 c.in-Ok-Passes.ensures)))

pub returns-in-Ok-Refused : goal.returns-in-Ok-Refused
returns-in-Ok-Refused g c = form_alike c.args.self.now.abi c.args.node.number c.args.node.place (pair_form c.args.pair c.get-left.result.now c.get-right.result.now) (pair_form c.args.pair c.args.left.now c.args.right.now) c.args.context.now _ (Ok (Refused c.in-Ok-Refused.fault))
    (λ i. pair_form c.args.pair (c.get-left.ensures i) (c.get-right.ensures i))
    (refused_form c.args.self.now.abi c.args.node.number c.args.node.place (pair_form c.args.pair c.get-left.result.now c.get-right.result.now) two_operands c.args.context.now c.two.new.context c.in-Ok-Refused.fault c.in-Ok-Refused.field-0 c.in-Ok-Refused.field-0-is (pair_walked c.args.self.now.abi c.args.pair c.get-left.result.now c.get-right.result.now c.args.context.now c.two.new.context c.in-Ok-Refused.field-0 c.in-Ok-Refused.ensures))

pub two-requires-clause-nests : goal.two-requires-clause-nests
two-requires-clause-nests g c = c.requires.nests

pub two-requires-clause-left : goal.two-requires-clause-left
two-requires-clause-left g c = subst (λ (left : Expr). expr_levels left ≤ c.args.self.now.depth) (sym c.get-left.ensures) c.requires.left

pub two-requires-clause-right : goal.two-requires-clause-right
two-requires-clause-right g c = subst (λ (right : Expr). expr_levels right ≤ c.args.self.now.depth) (sym c.get-right.ensures) c.requires.right

pub pair_node-requires-clause-left : goal.pair_node-requires-clause-left
pair_node-requires-clause-left g c = (passed_of _ _ _ _ _ _ c.in-Ok-Passes.field-0-is c.in-Ok-Passes.ensures).below.0

pub pair_node-requires-clause-right : goal.pair_node-requires-clause-right
pair_node-requires-clause-right g c = (passed_of _ _ _ _ _ _ c.in-Ok-Passes.field-0-is c.in-Ok-Passes.ensures).below.1
