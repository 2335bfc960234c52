use Rattle.std.specs.List.{AllWithin}
use Rattle.flow.specs.Valid.{HasReturn}
use Rattle.flow.proofs.outs.all_have_returns.Given as goal

abbrev pub invariant-loop-function : goal.invariant-loop-function
invariant-loop-function l = AllWithin (HasReturn l.flow) l.flow.functions 0 l.function-index
