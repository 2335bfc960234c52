-- A size that is told is that of the type.
use Rattle.std.proofs.Common.{◌∙◌}
use Rattle.typing.specs.ctypes.Table.{type_at}
use Rattle.c_text.proofs.TypeKinds.{bytes_are}
use Rattle.c_text.proofs.kinds.bytes_of.Goals as goal

pub returns : goal.returns
returns c = λ p same.
    c.bytes_told.ensures
    ∙ bytes_are p c.args.types.now.structs (type_at c.args.types.now.types c.args.number) c.size.result same (c.size.ensures p.abi)
