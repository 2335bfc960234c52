-- The names of a declaration of members, one behind the other.
use Rattle.std.proofs.Common.{arith}
use Rattle.typing.specs.Typing.{NamesAre, MemberIs}
use Rattle.expressions.specs.Numbers.{named_at}
use Rattle.ctrees.specs.Levels.{field_name_levels}
use Rattle.expressions.proofs.EachItem.{each_item}
use Rattle.expressions.proofs.checker.Checker.member_names.Goals as goal
use Rattle.expressions.proofs.Growth.{below_grows}
use Rattle.expressions.proofs.StructMembers.{where_passes, names_in_order, behind_start, behind_next, behind_refused, behind_end}

pub loop-name-init : goal.loop-name-init
loop-name-init g c =
    (behind_start c.args.self.now.abi (λ n members names o. NamesAre (named_at n c.args.base) members names o) (λ n members name o. MemberIs (named_at n c.args.base) members name o) c.args.names.now c.args.members.now.list c.args.context.now, c.requires.members)

pub declared_member-requires-clause-base : goal.declared_member-requires-clause-base
declared_member-requires-clause-base g c = below_grows c.args.context.now c.loop-name.context c.loop-name.invariant.0.grows c.args.base.ctype c.requires.base

pub returns-in-Ok-Refused-clause-found : goal.returns-in-Ok-Refused-clause-found
returns-in-Ok-Refused-clause-found g c = behind_refused c.args.self.now.abi (λ n members names o. NamesAre (named_at n c.args.base) members names o) (λ n members name o. MemberIs (named_at n c.args.base) members name o) c.args.names.now c.args.members.now.list
    (names_in_order c.args.self.now.abi c.args.base) c.loop-name.members.list c.declared_member.new.members.list c.args.context.now c.loop-name.context c.declared_member.new.context c.loop-name.name-index c.name-item.result c.in-Ok-Refused.fault c.in-Ok-Refused.field-0
    c.loop-name-test.true c.name-item.is c.in-Ok-Refused.field-0-is c.in-Ok-Refused.ensures.found c.loop-name.invariant.0

pub loop-name-preserved : goal.loop-name-preserved
loop-name-preserved g c = (
  behind_next c.args.self.now.abi (λ n members names o. NamesAre (named_at n c.args.base) members names o) (λ n members name o. MemberIs (named_at n c.args.base) members name o) c.args.names.now c.args.members.now.list
      (names_in_order c.args.self.now.abi c.args.base) c.loop-name.members.list c.declared_member.new.members.list c.args.context.now c.loop-name.context c.declared_member.new.context c.loop-name.name-index c.name-item.result c.in-Ok-Passes.field-0-0 c.in-Ok-Passes.field-0
      c.loop-name-test.true c.name-item.is c.in-Ok-Passes.field-0-is c.in-Ok-Passes.ensures.found c.loop-name.invariant.0,
  where_passes _ c.in-Ok-Passes.field-0-0 c.in-Ok-Passes.field-0 c.in-Ok-Passes.field-0-is c.in-Ok-Passes.ensures.members,
)

pub returns-clause-found : goal.returns-clause-found
returns-clause-found g c = behind_end c.args.self.now.abi (λ n members names o. NamesAre (named_at n c.args.base) members names o) (λ n members name o. MemberIs (named_at n c.args.base) members name o) c.args.names.now c.args.members.now.list
    (names_in_order c.args.self.now.abi c.args.base) c.loop-name.members.list c.args.context.now c.loop-name.context c.loop-name.name-index (omega arith) c.loop-name.invariant.1.below c.loop-name.invariant.0

pub declared_member-requires-clause-nests : goal.declared_member-requires-clause-nests
declared_member-requires-clause-nests g c = c.requires.nests

pub declared_member-requires-clause-members : goal.declared_member-requires-clause-members
declared_member-requires-clause-members g c = c.loop-name.invariant.1

pub returns-clause-members : goal.returns-clause-members
returns-clause-members g c = c.loop-name.invariant.1

pub returns-in-Ok-Refused-clause-members : goal.returns-in-Ok-Refused-clause-members
returns-in-Ok-Refused-clause-members g c = tt

pub declared_member-requires-clause-deep : goal.declared_member-requires-clause-deep
declared_member-requires-clause-deep g c = each_item field_name_levels c.args.self.now.depth c.args.names.now c.loop-name.name-index c.name-item.result c.requires.deep c.loop-name-test.true c.name-item.is
