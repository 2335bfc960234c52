use Rattle.std.proofs.Common.{List}
use Rattle.cbase.specs.declared.structs.StructDef.{StructDef}
use Rattle.typing.specs.Calls.{lengths_of, inconstant_lengths}
use Rattle.expressions.specs.Numbers.{Numbering}
use Rattle.expressions.proofs.SoFar.{FirstSoFar}
use Rattle.expressions.proofs.EachArgument.{rest_at}
use Rattle.expressions.proofs.nodes.arguments.inconstant_length.Given as goal

abbrev pub invariant-loop-at : goal.invariant-loop-at
invariant-loop-at l =
    (n : Numbering) (structs : List StructDef)
    → FirstSoFar (rest_at (inconstant_lengths (lengths_of l.name)) n structs l.params l.args l.known 0) (rest_at (inconstant_lengths (lengths_of l.name)) n structs l.params l.args l.known l.at) l.first
