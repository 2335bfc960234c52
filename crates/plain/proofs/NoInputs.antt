-- Flow graphs in whose runs no register holds a number from outside.
use Rattle.std.proofs.Common.{◌≡◌, ℕ, Bool, true, false, not, ◌&&◌, List, [], nat_eq, Some, refl}
use Rattle.std.specs.Prelude.{slice_get, if◌then◌else◌}
use Rattle.changes.specs.Parts.{is_among}
use Rattle.graph.specs.State as graphs
use Rattle.flow.specs.declared.flow_graph.Flow.{Flow}
use Rattle.flow.specs.declared.flow_graph.FlowEdge.{FlowEdge}
use Rattle.flow.specs.Machine.{State}
use Rattle.edge_steps.specs.Seen.{seen}
use Rattle.plain.specs.Conditions.{IsPlainAt}
use Rattle.plain.specs.Marks.{Marks, inputs_emptied, inputs_gained, inputs_after}
use Rattle.plain.specs.PlainRuns.{IsMarkedRun, Begins, Goes, IsPlain}

abbrev pub HoldsNone : (ℕ → Bool) → Type 0
HoldsNone input = (register : ℕ) → input register ≡ false

pub none_emptied : (gone : List ℕ) (input : ℕ → Bool) → HoldsNone input → HoldsNone (inputs_emptied gone input)
none_emptied gone input none register = by_test (is_among gone register) (none register)
  where
    by_test : (b : Bool) → input register ≡ false → (not b && input register) ≡ false
    by_test true is = refl
    by_test false is = is

pub none_gained : (gone : List ℕ) (into : ℕ) (input : ℕ → Bool) → HoldsNone input → HoldsNone (inputs_gained gone into false input)
none_gained gone into input none register = by_test (nat_eq register into) (none_emptied gone input none register)
  where
    by_test : (b : Bool) → inputs_emptied gone input register ≡ false → (if b then false else inputs_emptied gone input register) ≡ false
    by_test true is = refl
    by_test false is = is

-- such a flow graph is plain where what is asked of each instruction is met then
module _ (flow : Flow) (keeps : (input : ℕ → Bool) → HoldsNone input → (number : ℕ) (edge : FlowEdge) → slice_get flow.edges number ≡ Some edge → HoldsNone (inputs_after edge.instr input))
    (asks : (state : graphs.State) (marks : Marks) → HoldsNone marks.input → (number : ℕ) (edge : FlowEdge) → slice_get flow.edges number ≡ Some edge → IsPlainAt edge.instr state marks) where
  none_there : (state : State) (marks : Marks) → IsMarkedRun flow state marks → HoldsNone marks.input
  none_there _ _ (Begins choices state goes) = λ register. refl
  none_there _ _ (Goes state next marks number edge choices run stands goes) = keeps marks.input (none_there state marks run) number edge stands

  pub plain_without_inputs : flow.heads ≡ [] → IsPlain flow
  plain_without_inputs heads = record { heads = heads; at = λ state marks number edge run stands here. asks (seen [] state) marks (none_there state marks run) number edge stands }
