use Rattle.std.proofs.Common.{◌≡◌, ◌+◌, drop}
use Rattle.std.specs.List.{prefix_len}
use Rattle.cgrammar.specs.FrontReadings.{is_basic_word}
use Rattle.cgrammar.proofs.basic_words.basic_length.Given as goal

abbrev pub invariant-loop-token : goal.invariant-loop-token
invariant-loop-token l = (prefix_len is_basic_word l.row ≡ l.count + prefix_len is_basic_word (drop l.token-index l.row)) × (l.count ≡ l.token-index)
