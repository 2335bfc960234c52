-- What is found at the operator, of the table and of the context alike.
use Rattle.std.proofs.Common.{List}
use Rattle.cbase.specs.declared.ctype.CType.{CType}
use Rattle.cbase.specs.declared.structs.StructDef.{StructDef}
use Rattle.typing.specs.ctypes.Table.{type_at}
use Rattle.typing.specs.ctypes.Broken.{Judgement}
use Rattle.typing.specs.ctypes.Members.{indexed}
use Rattle.typing.specs.ctypes.Kinds.{kind_of, decayed}
use Rattle.expressions.proofs.Operating.{operates_two, answered_below}
use Rattle.expressions.proofs.context.Context.index.Goals as goal

abbrev judge : goal.After-index_type → List StructDef → CType → CType → Judgement
judge c structs t u = indexed (decayed (kind_of structs t)) (decayed (kind_of structs u))

pub invariant_of-self : goal.invariant_of-self
invariant_of-self c =
    let table = c.self.inside.types in
    answered_below table c.index_type.new.types c.self.inside.environment (judge c table.structs (type_at table.types c.args.base.ctype) (type_at table.types c.args.index.ctype)) c.index_type.result c.index_type.ensures.ok c.index_type.ensures.err c.self.invariant

pub returns : goal.returns
returns c = operates_two c.self.view_is c.index_type.new.types c.index_type.ensures.structs (judge c) c.args.base.ctype c.args.index.ctype c.requires.base c.requires.index c.index_type.result c.index_type.ensures.ok
