use Rattle.std.proofs.Common.{◌≡◌, ◌+◌, drop}
use Rattle.std.specs.List.{prefix_len}
use Rattle.cgrammar.specs.ConstantParts.{is_before_suffix}
use Rattle.cgrammar.proofs.constants.digits_length.Given as goal

abbrev pub invariant-loop-index : goal.invariant-loop-index
invariant-loop-index l = prefix_len is_before_suffix l.bytes ≡ l.index + prefix_len is_before_suffix (drop l.index l.bytes)
