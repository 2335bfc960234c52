use Rattle.std.proofs.Common.{◌≡◌, ◌+◌, drop}
use Rattle.std.specs.List.{prefix_len}
use Rattle.typing.specs.constants.Deciding.{is_before_suffix}
use Rattle.typing.proofs.constants.integer.suffix_start.Given as goal

abbrev pub invariant-loop-index : goal.invariant-loop-index
invariant-loop-index l = prefix_len is_before_suffix l.bytes ≡ l.index + prefix_len is_before_suffix (drop l.index l.bytes)
