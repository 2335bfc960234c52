use Rattle.items.proofs.BuiltIns.{Declaring}
use Rattle.items.proofs.built_ins.declare_functions.Given as goal

abbrev pub invariant-loop-function : goal.invariant-loop-function
invariant-loop-function l = Declaring l.bodied l.abi l.functions l.initial.context l.context l.function-index
