-- What is found at the operator, of the table and of the context alike.
use Rattle.std.proofs.Common.{List}
use Rattle.cbase.specs.declared.ctype.CType.{CType}
use Rattle.cbase.specs.declared.structs.StructDef.{StructDef}
use Rattle.typing.specs.ctypes.Table.{type_at}
use Rattle.typing.specs.ctypes.Broken.{Judgement}
use Rattle.typing.specs.ctypes.Members.{member_through}
use Rattle.typing.specs.ctypes.Kinds.{kind_of}
use Rattle.expressions.proofs.Operating.{operates_one, answered_below}
use Rattle.expressions.proofs.context.Context.pointed_member.Goals as goal

abbrev judge : goal.After-pointed_member_type → List StructDef → CType → Judgement
judge c structs t = member_through structs (kind_of structs t) c.args.name.now

pub invariant_of-self : goal.invariant_of-self
invariant_of-self c =
    let table = c.self.inside.types in
    answered_below table c.pointed_member_type.new.types c.self.inside.environment (judge c table.structs (type_at table.types c.args.operand.ctype)) c.pointed_member_type.result c.pointed_member_type.ensures.ok c.pointed_member_type.ensures.err c.self.invariant

pub returns : goal.returns
returns c = operates_one c.self.view_is c.pointed_member_type.new.types c.pointed_member_type.ensures.structs (judge c) c.args.operand.ctype c.requires c.pointed_member_type.result c.pointed_member_type.ensures.ok
