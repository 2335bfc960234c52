use Rattle.typing.specs.Typing.{MembersAre, DeclarationIs}
use Rattle.expressions.specs.Members.{AreMembers}
use Rattle.expressions.proofs.StructMembers.{Behind}
use Rattle.expressions.proofs.checker.Checker.declarations.Given as goal

abbrev pub invariant-loop-field : goal.invariant-loop-field
invariant-loop-field g l = Behind l.self.abi (λ n members fields o. MembersAre members fields o) (λ n members field o. DeclarationIs members field o) l.fields l.initial.members.list l.members.list l.initial.context l.context l.field-index
    × AreMembers l.context l.members.list l.members.names l.members.layout
