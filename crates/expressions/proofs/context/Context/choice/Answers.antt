-- What is found at the operator, of the table and of the context alike.
use Rattle.std.proofs.Common.{List}
use Rattle.cbase.specs.declared.ctype.CType.{CType}
use Rattle.cbase.specs.declared.structs.StructDef.{StructDef}
use Rattle.typing.specs.ctypes.Table.{type_at}
use Rattle.typing.specs.ctypes.Broken.{Judgement}
use Rattle.typing.specs.ctypes.Choosing.{chosen}
use Rattle.expressions.proofs.Operating.{operand_as, operates_three, answered_below}
use Rattle.expressions.proofs.context.Context.choice.Goals as goal

abbrev judge : goal.After-choice_type → List StructDef → CType → CType → CType → Judgement
judge c structs t u v = chosen (operand_as c.args.test structs t) (operand_as c.args.first structs u) (operand_as c.args.second structs v)

pub invariant_of-self : goal.invariant_of-self
invariant_of-self c =
    let table = c.self.inside.types in
    answered_below table c.choice_type.new.types c.self.inside.environment (judge c table.structs (type_at table.types c.args.test.ctype) (type_at table.types c.args.first.ctype) (type_at table.types c.args.second.ctype)) c.choice_type.result c.choice_type.ensures.ok c.choice_type.ensures.err c.self.invariant

pub returns : goal.returns
returns c = operates_three c.self.view_is c.choice_type.new.types c.choice_type.ensures.structs (judge c) c.args.test.ctype c.args.first.ctype c.args.second.ctype c.requires.test c.requires.first c.requires.second c.choice_type.result c.choice_type.ensures.ok
