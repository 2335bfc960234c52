use Rattle.std.proofs.Common.{◌≡◌, ◌+◌}
use Rattle.cparser.specs.OperatorSteps.{commas, all_commas}
use Rattle.cparser.specs.ReadingSteps.{inner_at}
use Rattle.cparser.proofs.grammar.Grammar.commas.Given as goal

abbrev pub invariant-turns : goal.invariant-turns
invariant-turns g l = commas (inner_at l.self.depth) (l.left + 1) l.reader ≡ all_commas (inner_at l.self.depth) l.initial.reader

abbrev pub decreases-turns : goal.decreases-turns
decreases-turns g l = l.left
