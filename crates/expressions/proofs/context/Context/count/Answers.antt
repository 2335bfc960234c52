-- What is found at the operator, of the table and of the context alike.
use Rattle.std.proofs.Common.{List}
use Rattle.cbase.specs.declared.ctype.CType.{CType}
use Rattle.cbase.specs.declared.structs.StructDef.{StructDef}
use Rattle.typing.specs.ctypes.Table.{type_at}
use Rattle.typing.specs.ctypes.Broken.{Judgement}
use Rattle.typing.specs.ctypes.Unary.{counted}
use Rattle.expressions.proofs.Operating.{operand_as, operates_one, answered_below}
use Rattle.expressions.proofs.context.Context.count.Goals as goal

abbrev judge : goal.After-count_type → List StructDef → CType → Judgement
judge c structs t = counted (operand_as c.args.operand structs t)

pub invariant_of-self : goal.invariant_of-self
invariant_of-self c =
    let table = c.self.inside.types in
    answered_below table c.count_type.new.types c.self.inside.environment (judge c table.structs (type_at table.types c.args.operand.ctype)) c.count_type.result c.count_type.ensures.ok c.count_type.ensures.err c.self.invariant

pub returns : goal.returns
returns c = operates_one c.self.view_is c.count_type.new.types c.count_type.ensures.structs (judge c) c.args.operand.ctype c.requires c.count_type.result c.count_type.ensures.ok
