use Rattle.std.proofs.Common.{refl}
use Rattle.typing.specs.ctypes.Table.{types_of}
use Rattle.typing.proofs.ctypes.Closing.{declared_laid}
use Rattle.typing.proofs.ctypes.types.Types.declare.Goals as goal

pub invariant_of-self-2 : goal.invariant_of-self-2
invariant_of-self-2 c = rw c.in_ok-push.ensures.items record {
  apart = c.self.invariant.apart;
  beside = c.self.invariant.beside;
  laid = declared_laid (types_of c.self.inside.shapes.keys) c.self.inside.structs.items _ refl refl c.new.ensures c.new-2.ensures.empty c.new-3.ensures.items c.self.invariant.laid;
}
