use Rattle.typing.specs.Calls.{lengths_of, large_lengths}
use Rattle.expressions.specs.Context.{Agrees}
use Rattle.expressions.specs.Numbers.{Numbering}
use Rattle.expressions.proofs.SoFar.{FirstSoFar}
use Rattle.expressions.proofs.EachArgument.{rest_at}
use Rattle.expressions.proofs.nodes.arguments.large_length.Given as goal

abbrev pub invariant-loop-at : goal.invariant-loop-at
invariant-loop-at l =
    (n : Numbering) → Agrees n l.context
    → FirstSoFar (rest_at (large_lengths (lengths_of l.name)) n l.context.structs l.params l.args l.known 0) (rest_at (large_lengths (lengths_of l.name)) n l.context.structs l.params l.args l.known l.at) l.first
