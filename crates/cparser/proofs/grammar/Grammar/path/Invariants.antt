use Rattle.std.proofs.Common.{◌≡◌, ◌+◌}
use Rattle.cparser.specs.OperandSteps.{path, whole_path}
use Rattle.cparser.specs.ReadingSteps.{inner_at}
use Rattle.cparser.proofs.grammar.Grammar.path.Given as goal

abbrev pub invariant-turns : goal.invariant-turns
invariant-turns g l = path (inner_at l.self.depth) (l.left + 1) l.reader ≡ whole_path (inner_at l.self.depth) l.initial.reader

abbrev pub decreases-turns : goal.decreases-turns
decreases-turns g l = l.left
