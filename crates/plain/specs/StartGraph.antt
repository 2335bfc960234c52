-- The graph in which runs begin shows each state in which one does.
use Rattle.std.specs.Prelude.{◌≡◌, List, []}
use Rattle.choices.specs.declared.choice.Choice.{Choice}
use Rattle.graph.specs.declared.parts.Parts.{Parts}
use Rattle.flow.specs.declared.flow_graph.Flow.{Flow}
use Rattle.flow.specs.Machine.{State, Went}
use Rattle.flow.specs.Runs.{start}
use Rattle.flow.specs.Valid.{IsFlow}
use Rattle.edge_steps.specs.Seen.{seen}
use Rattle.transfer.specs.Start.{IsStartGraph}
use Rattle.plain.specs.PlainRuns.{start_marks}
use Rattle.plain.specs.Shown.{IsShown}

abbrev pub DoStartsShow : Type 0
DoStartsShow = (flow : Flow) (parts : Parts) (state : State) (choices : List Choice) → IsFlow flow → IsStartGraph flow parts → start flow choices ≡ Went state [] → IsShown parts (seen [] state) (start_marks flow state)
