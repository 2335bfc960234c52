-- The exits of the functions so far.
use Rattle.std.proofs.Common.{◌≡◌, ◌≢◌, ℕ, suc, ◌<◌, Some}
use Rattle.std.specs.Prelude.{slice_get, slice_index}
use Rattle.flow.specs.declared.flow_graph.FlowFunction.{FlowFunction}
use Rattle.flow.proofs.separation.all_own_exits.Given as goal

abbrev pub invariant-loop-number : goal.invariant-loop-number
invariant-loop-number l = (number : ℕ) (function : FlowFunction) → number < l.number → slice_get l.flow.functions number ≡ Some function →
    slice_index l.owners function.exit ≢ 0 → slice_index l.owners function.exit ≡ suc number
