use Rattle.std.proofs.Common.{sym}
use Rattle.typing.specs.ctypes.Table.{types_of}
use Rattle.typing.proofs.ctypes.Laid.{entry_laid, entry_laid_small}
use Rattle.typing.proofs.ctypes.types.Types.struct_layout.Goals as goal

pub returns-in-Some-clause-value : goal.returns-in-Some-clause-value
returns-in-Some-clause-value c = rw (sym c.self.view_is)
    (entry_laid (types_of c.self.inside.shapes.keys) c.self.inside.structs.items c.self.invariant.laid c.args.of c.in-Some.kept.now (rw (sym c.deref.ensures.value) (sym c.in-Some.ensures)))

pub returns-in-Some-clause-small : goal.returns-in-Some-clause-small
returns-in-Some-clause-small c =
    entry_laid_small (types_of c.self.inside.shapes.keys) c.self.inside.structs.items c.self.invariant.laid c.args.of c.in-Some.kept.now (rw (sym c.deref.ensures.value) (sym c.in-Some.ensures))
