use Rattle.std.proofs.Common.{◌≡◌, ◌+◌}
use Rattle.cparser.specs.ListSteps.{part_of, closes_of}
use Rattle.cparser.specs.Steps.{parts, all_parts}
use Rattle.cparser.specs.ReadingSteps.{inner_at}
use Rattle.cparser.proofs.grammar.Grammar.parts.Given as goal

abbrev pub invariant-turns : goal.invariant-turns
invariant-turns g l = parts (closes_of l.listed) (part_of (inner_at l.self.depth) l.listed) (l.left + 1) l.reader ≡ all_parts (closes_of l.listed) (part_of (inner_at l.self.depth) l.listed) l.initial.reader

abbrev pub decreases-turns : goal.decreases-turns
decreases-turns g l = l.left
