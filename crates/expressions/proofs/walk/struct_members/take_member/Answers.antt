-- A member at which nothing is broken has a size.
use Rattle.std.proofs.Common.{sym, ◌∙◌}
use Rattle.cbase.specs.declared.tree.expr.ExprForm.TheViews.{out-FieldName}
use Rattle.typing.specs.declared.ctypes.found.Broken.TheVariants.{Rule}
use Rattle.typing.specs.Faults.{fault}
use Rattle.expressions.proofs.MembersSoFar.{taken_sized}
use Rattle.expressions.proofs.walk.struct_members.take_member.Goals as goal

pub returns-in_default-layout-clause-taken : goal.returns-in_default-layout-clause-taken
returns-in_default-layout-clause-taken c = λ abi.
    taken_sized c.args.context.now abi c.args.members.now.list (out-FieldName c.args.name.now) c.args.named (fault (out-FieldName c.args.name.now).place (Rule 3)) c.requires.below
    (λ n agrees. c.in_default.ensures n abi agrees) c.in_default-layout.ensures.value

pub member_fault-requires-clause-below : goal.member_fault-requires-clause-below
member_fault-requires-clause-below c = c.requires.below

pub member_fault-requires-clause-members : goal.member_fault-requires-clause-members
member_fault-requires-clause-members c = c.requires.members

pub layout-requires : goal.layout-requires
layout-requires c = c.requires.below

pub add_member-requires-clause-below : goal.add_member-requires-clause-below
add_member-requires-clause-below c = c.requires.below

pub add_member-requires-clause-members : goal.add_member-requires-clause-members
add_member-requires-clause-members c = c.requires.members

pub returns-in-Some-clause-taken : goal.returns-in-Some-clause-taken
returns-in-Some-clause-taken c = λ abi n agrees. c.in-Some.ensures n abi agrees

pub returns-in-Some-clause-members : goal.returns-in-Some-clause-members
returns-in-Some-clause-members c = tt

pub returns-in_default-layout-clause-members : goal.returns-in_default-layout-clause-members
returns-in_default-layout-clause-members c = tt

pub add_member-requires-clause-laid : goal.add_member-requires-clause-laid
add_member-requires-clause-laid c = sym c.in-Some-layout.is ∙ c.layout.ensures.value

pub add_member-requires-clause-small : goal.add_member-requires-clause-small
add_member-requires-clause-small c = c.in-Some-layout.ensures.small

pub returns-in-Ok-clause-taken : goal.returns-in-Ok-clause-taken
returns-in-Ok-clause-taken c = λ abi. ((λ n agrees. c.in_default.ensures n abi agrees), c.in-Ok.ensures.pushed)

pub returns-in-Ok-clause-members : goal.returns-in-Ok-clause-members
returns-in-Ok-clause-members c = c.in-Ok.ensures.are
