-- The most so far, and what is left.
use Rattle.std.proofs.Common.{◌≡◌, max, drop}
use Rattle.lowering.specs.Placing.{behind_widths}
use Rattle.lower.proofs.builder.behind_widths.Given as goal

abbrev pub invariant-loop-width : goal.invariant-loop-width
invariant-loop-width l = max l.most (behind_widths (drop l.width-index l.widths)) ≡ behind_widths l.widths
