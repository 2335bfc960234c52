use Rattle.std.proofs.Common.{◌≡◌, ◌+◌, drop, codes}
use Rattle.std.specs.List.{prefix_len}
use Rattle.cgrammar.specs.Terminals.{is_mark}
use Rattle.cgrammar.proofs.stars.stars_length.Given as goal

abbrev pub invariant-loop-token : goal.invariant-loop-token
invariant-loop-token l = (prefix_len (is_mark (codes "*")) l.row ≡ l.count + prefix_len (is_mark (codes "*")) (drop l.token-index l.row)) × (l.count ≡ l.token-index)
