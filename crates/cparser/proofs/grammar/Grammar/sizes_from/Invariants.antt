use Rattle.std.proofs.Common.{◌≡◌, ◌+◌}
use Rattle.cparser.specs.TypeSteps.{sizes, sizes_from}
use Rattle.cparser.specs.ReadingSteps.{inner_at}
use Rattle.cparser.proofs.grammar.Grammar.sizes_from.Given as goal

abbrev pub invariant-turns : goal.invariant-turns
invariant-turns g l = sizes (inner_at l.self.depth) l.optional (l.left + 1) l.reader ≡ sizes_from (inner_at l.self.depth) l.optional l.initial.reader

abbrev pub decreases-turns : goal.decreases-turns
decreases-turns g l = l.left
