-- Programs with their graphs, worked out by hand: the edges in their order. Where the graph runs with choices it comes to what the program comes to.
use Rattle.std.specs.Prelude.{◌≡◌, Bool, true, ◌&&◌, List, map, length, Option, None, Some}
use Rattle.std.specs.List.{list_all}
use Rattle.cbase.specs.declared.abi.Abi.TheVariants.{Lp64}
use Rattle.choices.specs.declared.choice.Choice.{Choice}
use Rattle.c_machine.specs.Script.{Script, text_in}
use Rattle.flow.specs.declared.flow_graph.Flow.{Flow}
use Rattle.flow.specs.declared.flow_graph.FlowEdge.{FlowEdge}
use Rattle.flow.specs.Machine as graph
use Rattle.flow.specs.Runs.{start, run, then_go}
use Rattle.flow.specs.Standing.{stands_after, stands_at}
use Rattle.flow.specs.Valid.{reads_what_stands, tests_one_size, has_scope, calls_rightly, has_sizes, names_what_is_there}
use Rattle.lowering.specs.Lowering.{flow_in}

abbrev pub graph_of : Script → Option Flow
graph_of script = flow_in Lp64 (text_in script)

-- with these choices the graph comes to that within 200 steps
abbrev pub comes_to : Option Flow → List Choice → graph.Outcome
comes_to None choices = graph.Barred
comes_to (Some flow) choices = then_go (start flow choices) (run 200 flow)

abbrev pub GraphComesTo : Script → List Choice → graph.Outcome → Type 0
GraphComesTo script choices outcome = comes_to (graph_of script) choices ≡ outcome

-- each edge leads from what stands at its one end to what stands at its other end, and finds what it asks for
abbrev pub is_fit : Flow → FlowEdge → Bool
is_fit flow edge =
    reads_what_stands flow (stands_at flow edge.from) edge.instr && (tests_one_size (stands_at flow edge.from) edge.instr
    && (has_scope flow (stands_at flow edge.from) edge.instr && (calls_rightly flow edge.instr && (has_sizes edge.instr && names_what_is_there flow edge.instr))))

pub record IsFit (flow : Flow) : Type 0 where
  pub told : length flow.stands ≡ flow.points
  pub leads : map (λ edge. stands_after flow edge.instr (stands_at flow edge.from)) flow.edges ≡ map (λ edge. stands_at flow edge.to) flow.edges
  pub fit : list_all (is_fit flow) flow.edges ≡ true

-- a graph is there, and it is so
abbrev pub IsGraph : Option Flow → Type 0
IsGraph None = ⊥
IsGraph (Some flow) = IsFit flow

abbrev pub HasGraph : Script → Type 0
HasGraph script = IsGraph (graph_of script)
