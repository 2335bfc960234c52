use Rattle.std.proofs.Common.{◌<◌, ◌≤◌, length}
use Rattle.std.specs.Prelude.{All}
use Rattle.expression_rows.proofs.types.numbers_of.Given as goal

abbrev pub invariant-loop-one : goal.invariant-loop-one
invariant-loop-one l = record {
  below : All (λ number. number < length l.context.types) l.numbers;
  longer : length l.fn.context.types ≤ length l.context.types;
}
