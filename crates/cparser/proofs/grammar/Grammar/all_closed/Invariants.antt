use Rattle.std.proofs.Common.{◌≡◌, ◌+◌, ◌≤◌, drop}
use Rattle.std.specs.List.{prefix_len}
use Rattle.cparser.specs.OperandSteps.{all_closed, is_no_word}
use Rattle.cparser.specs.ReadingSteps.{inner_at}
use Rattle.cparser.proofs.grammar.Grammar.all_closed.Given as goal

abbrev pub invariant-brackets : goal.invariant-brackets
invariant-brackets g l =
    (all_closed (inner_at l.self.depth) l.first l.left l.reader ≡ all_closed (inner_at l.self.depth) l.first l.count l.initial.reader)
    × (l.left ≤ l.count)
    × (l.passed ≤ prefix_len is_no_word (drop (l.first + l.left) l.reader.row))

abbrev pub decreases-brackets : goal.decreases-brackets
decreases-brackets g l = l.left
