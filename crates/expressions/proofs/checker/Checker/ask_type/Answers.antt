use Rattle.std.proofs.Common.{length}
use Rattle.expressions.proofs.Telling.{may_ask, asked}
use Rattle.expressions.proofs.TypeParts.{type_part_below, type_part_is, type_part_told}
use Rattle.expressions.proofs.checker.Checker.ask_type.Goals as goal

pub inner-requires : goal.inner-requires
inner-requires g c = may_ask c.args.self.now.abi c.args.self.now.depth c.requires.nests c.args.part c.requires.deep _ (type_part_below (length c.args.context.now.types) c.args.part c.requires.of_type)

pub type_in-requires : goal.type_in-requires
type_in-requires g c = type_part_is c.args.self.now.abi c.args.context.now _ c.args.part c.inner.result c.requires.of_type (asked c.args.self.now.abi c.args.self.now.depth c.requires.nests c.args.part c.requires.deep _ _ c.inner.result c.inner.ensures)

pub returns : goal.returns
returns g c = type_part_told c.args.self.now.abi c.args.context.now _ c.args.part c.inner.result c.type_in.result c.requires.of_type c.type_in.ensures (asked c.args.self.now.abi c.args.self.now.depth c.requires.nests c.args.part c.requires.deep _ _ c.inner.result c.inner.ensures)
