use Rattle.std.proofs.Common.{◌≡◌, ◌+◌, ◌≤◌, drop}
use Rattle.std.specs.List.{prefix_len}
use Rattle.cparser.specs.OperandSteps.{postfixes, all_postfixes, is_no_word}
use Rattle.cparser.specs.ReadingSteps.{inner_at}
use Rattle.cparser.proofs.grammar.Grammar.postfixes.Given as goal

abbrev pub invariant-turns : goal.invariant-turns
invariant-turns g l =
    (postfixes (inner_at l.self.depth) l.first (l.left + 1) l.reader ≡ all_postfixes (inner_at l.self.depth) l.first l.initial.reader)
    × (l.passed ≤ prefix_len is_no_word (drop l.first l.reader.row))
    × (l.reader.row ≡ l.initial.reader.row)

abbrev pub decreases-turns : goal.decreases-turns
decreases-turns g l = l.left
