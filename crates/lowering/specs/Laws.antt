-- What is promised of a program and the flow graph that is made of it.
use Rattle.std.specs.Prelude.{◌≡◌, ◌↔◌, ℕ, List, Some}
use Rattle.cbase.specs.declared.place.Place.{Place}
use Rattle.choices.specs.declared.choice.Choice.{Choice}
use Rattle.c_machine.specs.Program.{Program}
use Rattle.c_machine.specs.Run.{Leads}
use Rattle.c_machine.specs.Trees.{text_of}
use Rattle.flow.specs.declared.flow_graph.Flow.{Flow}
use Rattle.flow.specs.Valid.{IsFlow}
use Rattle.simulation.specs.Laws.{GraphLeads}
use Rattle.lowering.specs.Lowering.{flow_of}

-- a program and its graph meet the same faults, with the same choices
abbrev pub DoGraphsMeet : Type 0
DoGraphsMeet =
    (p : Program) (flow : Flow) → flow_of p ≡ Some flow → IsFlow flow → (choices : List Choice) (kind : ℕ) (place : Place) → Leads (text_of p) choices kind place ↔ GraphLeads flow choices kind place
