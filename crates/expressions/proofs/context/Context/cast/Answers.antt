-- What is found at the operator, of the table and of the context alike.
use Rattle.std.proofs.Common.{List}
use Rattle.cbase.specs.declared.ctype.CType.{CType}
use Rattle.cbase.specs.declared.structs.StructDef.{StructDef}
use Rattle.typing.specs.ctypes.Table.{type_at}
use Rattle.typing.specs.ctypes.Broken.{Judgement}
use Rattle.typing.specs.ctypes.Converting.{cast}
use Rattle.typing.specs.ctypes.Kinds.{kind_of, decayed}
use Rattle.expressions.proofs.Operating.{operates_two, answered_below}
use Rattle.expressions.proofs.context.Context.cast.Goals as goal

abbrev judge : goal.After-cast_type → List StructDef → CType → CType → Judgement
judge c structs t u = cast (kind_of structs t) t (decayed (kind_of structs u)) c.args.operand.null c.args.is_offsetof

pub invariant_of-self : goal.invariant_of-self
invariant_of-self c =
    let table = c.self.inside.types in
    answered_below table c.cast_type.new.types c.self.inside.environment (judge c table.structs (type_at table.types c.args.to) (type_at table.types c.args.operand.ctype)) c.cast_type.result c.cast_type.ensures.ok c.cast_type.ensures.err c.self.invariant

pub returns : goal.returns
returns c = operates_two c.self.view_is c.cast_type.new.types c.cast_type.ensures.structs (judge c) c.args.to c.args.operand.ctype c.requires.to c.requires.operand c.cast_type.result c.cast_type.ensures.ok
