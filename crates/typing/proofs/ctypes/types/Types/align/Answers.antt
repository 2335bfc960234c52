use Rattle.std.proofs.Common.{None, Some}
use Rattle.typing.specs.ctypes.Table.{type_at}
use Rattle.typing.proofs.ctypes.Laid.{alignment_alike}
use Rattle.typing.proofs.ctypes.types.Types.align.Goals as goal

pub returns-in-None : goal.returns-in-None
returns-in-None c = λ abi.
    alignment_alike abi c.args.self.now.structs (type_at c.args.self.now.types c.args.number) None c.in-None.ensures.value

pub returns-in-Some : goal.returns-in-Some
returns-in-Some c = λ abi. alignment_alike abi c.args.self.now.structs (type_at c.args.self.now.types c.args.number) (Some c.in-Some.layout) c.in-Some.ensures.value
