use Rattle.std.proofs.Common.{◌≡◌, drop}
use Rattle.typing.specs.Nodes.{are_empty}
use Rattle.expressions.proofs.walk.blocks.are_empty.Given as goal

abbrev pub invariant-loop-stmt : goal.invariant-loop-stmt
invariant-loop-stmt l = are_empty (drop l.stmt-index l.stmts) ≡ are_empty l.stmts
