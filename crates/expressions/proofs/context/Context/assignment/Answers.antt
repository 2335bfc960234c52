-- What is found at the operator, of the table and of the context alike.
use Rattle.std.proofs.Common.{List}
use Rattle.cbase.specs.declared.ctype.CType.{CType}
use Rattle.cbase.specs.declared.structs.StructDef.{StructDef}
use Rattle.typing.specs.ctypes.Table.{type_at}
use Rattle.typing.specs.ctypes.Broken.{Judgement}
use Rattle.typing.specs.ctypes.Assigning.{assigned}
use Rattle.expressions.proofs.Operating.{operand_as, operates_two, answered_below}
use Rattle.expressions.proofs.context.Context.assignment.Goals as goal

abbrev judge : goal.After-assignment_type → List StructDef → CType → CType → Judgement
judge c structs t u = assigned (operand_as c.args.left structs t) (operand_as c.args.right structs u)

pub invariant_of-self : goal.invariant_of-self
invariant_of-self c =
    let table = c.self.inside.types in
    answered_below table c.assignment_type.new.types c.self.inside.environment (judge c table.structs (type_at table.types c.args.left.ctype) (type_at table.types c.args.right.ctype)) c.assignment_type.result c.assignment_type.ensures.ok c.assignment_type.ensures.err c.self.invariant

pub returns : goal.returns
returns c = operates_two c.self.view_is c.assignment_type.new.types c.assignment_type.ensures.structs (judge c) c.args.left.ctype c.args.right.ctype c.requires.left c.requires.right c.assignment_type.result c.assignment_type.ensures.ok
