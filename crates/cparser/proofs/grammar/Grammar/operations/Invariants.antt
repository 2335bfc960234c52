use Rattle.std.proofs.Common.{◌≡◌, ◌+◌}
use Rattle.cparser.specs.OperatorSteps.{operations, all_operations}
use Rattle.cparser.specs.ReadingSteps.{inner_at}
use Rattle.cparser.proofs.grammar.Grammar.operations.Given as goal

abbrev pub invariant-turns : goal.invariant-turns
invariant-turns g l = operations (inner_at l.self.depth) l.loosest (l.left + 1) l.reader ≡ all_operations (inner_at l.self.depth) l.loosest l.initial.reader

abbrev pub decreases-turns : goal.decreases-turns
decreases-turns g l = l.left
