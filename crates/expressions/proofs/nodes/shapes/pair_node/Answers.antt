-- A form of two operands by what it is, each by its rule.
use Rattle.std.proofs.Common.{refl, sym, subst, None, Some, IfOk}
use Rattle.cbase.specs.declared.place.Place.{Place}
use Rattle.cbase.specs.declared.tree.expr.ExprForm.TheOpen.{Binary, Assign, Index}
use Rattle.typing.specs.ctypes.Assigning.{assigned}
use Rattle.typing.specs.Known.{plain}
use Rattle.typing.specs.Nodes.{place_of_assignment}
use Rattle.typing.specs.Rules.{Assignment, CompoundAssignment, Subscript}
use Rattle.expressions.specs.Context.{declared}
use Rattle.expressions.specs.Found.{two_operands}
use Rattle.expressions.specs.Language.{language}
use Rattle.expressions.specs.Numbers.{known_at, operand_at, operand_in}
use Rattle.expressions.specs.Settled.{Judged}
use Rattle.expressions.proofs.Behind.{judged_behind}
use Rattle.expressions.proofs.ByRule.{binary_rule}
use Rattle.expressions.proofs.nodes.shapes.pair_node.Goals as goal

pub returns-in-Binary : goal.returns-in-Binary
returns-in-Binary c = rw c.in-Binary.is (λ abi one other is. judged_behind abi c.args.node.number c.args.node.place (Binary c.in-Binary.op one other) two_operands c.args.context.now _ (c.args.left, c.args.right) _ _ _ c.binary_node.result c.binary_node.ensures
    (λ n handed. binary_rule (language abi n) (declared c.args.context.now) c.args.node.number c.args.node.place handed c.in-Binary.op one other (known_at n c.args.left) (known_at n c.args.right)))

pub returns-in-None : goal.returns-in-None
returns-in-None c = rw (c.in-Assign.is, c.in-None.is) (λ abi one other is. judged_behind abi c.args.node.number c.args.node.place (Assign None one other) two_operands c.args.context.now _ (c.args.left, c.args.right) (place_of_assignment c.args.node.place other.place) _ _ c.assignment_node.result
    (subst (λ (p : Place). IfOk c.assignment_node.result (λ found. Judged (λ n. assigned (operand_at n c.args.context.now.structs (operand_in c.args.left)) (operand_at n c.args.context.now.structs (operand_in c.args.right))) (place_of_assignment c.args.node.place p) (λ n t. plain t) c.args.node.number c.args.context.now c.assignment_node.new.context found)) (sym is) c.assignment_node.ensures)
    (λ n handed. Assignment refl refl))

pub returns-in-Some : goal.returns-in-Some
returns-in-Some c = rw (c.in-Assign.is, c.in-Some.is) (λ abi one other is. judged_behind abi c.args.node.number c.args.node.place (Assign (Some c.in-Some.op) one other) two_operands c.args.context.now _ (c.args.left, c.args.right) _ _ _ c.update_node.result c.update_node.ensures (λ n handed. CompoundAssignment refl refl))

pub returns-in-Index : goal.returns-in-Index
returns-in-Index c = rw c.in-Index.is (λ abi one other is. judged_behind abi c.args.node.number c.args.node.place (Index one other) two_operands c.args.context.now _ (c.args.left, c.args.right) _ _ _ c.index_node.result (c.index_node.ensures abi) (λ n handed. Subscript refl refl refl))
