-- Each form of types has its equations.
use Rattle.typing.proofs.ctypes.ShapeKinds.{are_kinds, are_targets}
use Rattle.typing.proofs.ctypes.operator_laws.types_have_kinds.Goals as goal

pub returns-clause-kinds : goal.returns-clause-kinds
returns-clause-kinds c = are_kinds

pub returns-clause-targets : goal.returns-clause-targets
returns-clause-targets c = are_targets
