use Rattle.std.proofs.Common.{◌≡◌, ◌+◌}
use Rattle.cgrammar.specs.ReadTypes.{never}
use Rattle.cparser.specs.DeclarationSteps.{declarator}
use Rattle.cparser.specs.Steps.{parts, all_parts}
use Rattle.cparser.specs.ReadingSteps.{inner_at}
use Rattle.cparser.proofs.grammar.Grammar.declarators.Given as goal

abbrev pub invariant-turns : goal.invariant-turns
invariant-turns g l = parts never (declarator (inner_at l.self.depth) l.typedef) (l.left + 1) l.reader ≡ all_parts never (declarator (inner_at l.self.depth) l.typedef) l.initial.reader

abbrev pub decreases-turns : goal.decreases-turns
decreases-turns g l = l.left
