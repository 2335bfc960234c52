-- A form of one operand by what it is, each by its rule.
use Rattle.std.proofs.Common.{refl, true, false}
use Rattle.cbase.specs.declared.tree.expr.ExprForm.TheOpen.{Unary, Count, SizeOf, ExprForm::Member}
use Rattle.cbase.specs.declared.tree.operators.UnaryOp.TheVariants.{Address, Follow}
use Rattle.typing.specs.Rules.{AddressOf, Indirection, UnaryArithmetic, Counting, SizeOfExpression, MemberOfStruct, MemberOfPointed}
use Rattle.expressions.specs.Found.{one_operand}
use Rattle.expressions.proofs.Behind.{judged_behind, settled_behind, arithmetic}
use Rattle.expressions.proofs.nodes.shapes.single_node.Goals as goal

pub returns-in-Address : goal.returns-in-Address
returns-in-Address c = rw (c.in-Unary.is, c.in-Address.is) (λ abi tree. judged_behind abi c.args.node.number c.args.node.place (Unary Address tree) one_operand c.args.context.now _ c.args.arg _ _ _ c.address_node.result c.address_node.ensures (λ n handed. AddressOf refl))

pub returns-in-Follow : goal.returns-in-Follow
returns-in-Follow c = rw (c.in-Unary.is, c.in-Follow.is) (λ abi tree. judged_behind abi c.args.node.number c.args.node.place (Unary Follow tree) one_operand c.args.context.now _ c.args.arg _ _ _ c.indirection_node.result c.indirection_node.ensures (λ n handed. Indirection refl))

pub returns-in_default : goal.returns-in_default
returns-in_default c = rw c.in-Unary.is (λ abi tree. judged_behind abi c.args.node.number c.args.node.place (Unary c.in-Unary.op tree) one_operand c.args.context.now _ c.args.arg _ _ _ c.unary_node.result c.unary_node.ensures (λ n handed. UnaryArithmetic (arithmetic c.in-Unary.op c.in_default.not-Address c.in_default.not-Follow) refl))

pub returns-in-Count : goal.returns-in-Count
returns-in-Count c = rw c.in-Count.is (λ abi tree. judged_behind abi c.args.node.number c.args.node.place (Count c.in-Count.up c.in-Count.after tree) one_operand c.args.context.now _ c.args.arg _ _ _ c.counting_node.result c.counting_node.ensures (λ n handed. Counting refl))

pub returns-in-Size : goal.returns-in-Size
returns-in-Size c = rw c.in-Size.is (λ abi tree. settled_behind abi c.args.node.number c.args.node.place (SizeOf tree) one_operand c.args.context.now _ c.args.arg _ _ c.size_node.result (c.size_node.ensures abi) (λ n handed outcome agrees settled. SizeOfExpression refl settled))

pub returns-then-through : goal.returns-then-through
returns-then-through c = rw (c.in-Member.is, c.if-through.true) (λ abi tree. judged_behind abi c.args.node.number c.args.node.place (ExprForm::Member tree c.in-Member.name.now true) one_operand c.args.context.now _ c.args.arg _ _ _ c.pointed_member_node.result (c.pointed_member_node.ensures abi) (λ n handed. MemberOfPointed refl refl refl))

pub returns-else-through : goal.returns-else-through
returns-else-through c = rw (c.in-Member.is, c.if-through.false) (λ abi tree. judged_behind abi c.args.node.number c.args.node.place (ExprForm::Member tree c.in-Member.name.now false) one_operand c.args.context.now _ c.args.arg _ _ _ c.member_node.result (c.member_node.ensures abi) (λ n handed. MemberOfStruct refl refl))
