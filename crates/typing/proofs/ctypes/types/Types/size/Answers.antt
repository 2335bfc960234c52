use Rattle.std.proofs.Common.{◌∙◌}
use Rattle.typing.specs.ctypes.Table.{type_at}
use Rattle.typing.proofs.ctypes.Laid.{extent_alike}
use Rattle.typing.proofs.ctypes.types.Types.size.Goals as goal

pub returns : goal.returns
returns c = λ abi. c.told.ensures ∙ extent_alike abi c.args.self.now.structs (type_at c.args.self.now.types c.args.number) c.layout.result c.layout.ensures.value
