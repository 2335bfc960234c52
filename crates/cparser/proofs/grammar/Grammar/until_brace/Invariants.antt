use Rattle.std.proofs.Common.{◌≡◌, ◌+◌}
use Rattle.cparser.specs.BraceSteps.{member_of}
use Rattle.cparser.specs.Steps.{parts_until_brace, until_brace}
use Rattle.cparser.specs.ReadingSteps.{inner_at}
use Rattle.cparser.proofs.grammar.Grammar.until_brace.Given as goal

abbrev pub invariant-turns : goal.invariant-turns
invariant-turns g l = parts_until_brace (member_of (inner_at l.self.depth) l.braced) (l.left + 1) l.reader ≡ until_brace (member_of (inner_at l.self.depth) l.braced) l.initial.reader

abbrev pub decreases-turns : goal.decreases-turns
decreases-turns g l = l.left
