use Rattle.typing.specs.Calls.{unconverted}
use Rattle.expressions.specs.Context.{Agrees}
use Rattle.expressions.specs.Numbers.{Numbering}
use Rattle.expressions.proofs.SoFar.{FirstSoFar}
use Rattle.expressions.proofs.EachArgument.{rest_at}
use Rattle.expressions.proofs.nodes.arguments.unconverted.Given as goal

abbrev pub invariant-loop-at : goal.invariant-loop-at
invariant-loop-at l =
    (n : Numbering) → Agrees n l.context
    → FirstSoFar (rest_at (λ at. unconverted) n l.context.structs l.params l.args l.known 0) (rest_at (λ at. unconverted) n l.context.structs l.params l.args l.known l.at) l.first
