use Rattle.std.proofs.Common.{◌≡◌, ◌+◌, drop}
use Rattle.std.specs.List.{prefix_len}
use Rattle.cparser.specs.OperandSteps.{is_no_word}
use Rattle.cparser.proofs.calls.before_word.Given as goal

abbrev pub invariant-loop-token : goal.invariant-loop-token
invariant-loop-token l = (prefix_len is_no_word l.row ≡ l.count + prefix_len is_no_word (drop l.token-index l.row)) × (l.count ≡ l.token-index)
