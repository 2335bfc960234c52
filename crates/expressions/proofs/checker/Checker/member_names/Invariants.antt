use Rattle.typing.specs.Typing.{NamesAre, MemberIs}
use Rattle.expressions.specs.Members.{AreMembers}
use Rattle.expressions.specs.Numbers.{named_at}
use Rattle.expressions.proofs.StructMembers.{Behind}
use Rattle.expressions.proofs.checker.Checker.member_names.Given as goal

abbrev pub invariant-loop-name : goal.invariant-loop-name
invariant-loop-name g l = Behind l.self.abi (λ n members names o. NamesAre (named_at n l.base) members names o) (λ n members name o. MemberIs (named_at n l.base) members name o) l.names l.initial.members.list l.members.list l.initial.context l.context l.name-index
    × AreMembers l.context l.members.list l.members.names l.members.layout
