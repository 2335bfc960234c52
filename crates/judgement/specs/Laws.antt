-- How the faults of a program and those of its flow graph hang together.
use Rattle.std.specs.Prelude.{◌≡◌, ℕ, Some}
use Rattle.cbase.specs.declared.place.Place.{Place}
use Rattle.c_machine.specs.Program.{Program}
use Rattle.c_machine.specs.Run.{IsSound}
use Rattle.c_machine.specs.Trees.{text_of}
use Rattle.flow.specs.declared.flow_graph.Flow.{Flow}
use Rattle.flow.specs.Runs.{RunFaults}
use Rattle.flow.specs.Valid.{IsFlow}
use Rattle.lowering.specs.Lowering.{flow_of}
use Rattle.judgement.specs.Judged.{IsMet}

-- where no run of the graph faults, no run of the program does
abbrev pub IsSafetyOfPrograms : Type 0
IsSafetyOfPrograms =
    (p : Program) (flow : Flow) → flow_of p ≡ Some flow → IsFlow flow → ((kind : ℕ) (place : Place) → RunFaults flow kind place → ⊥) → IsSound (text_of p)

-- and a fault that a run of the graph meets a run of the program meets
abbrev pub AreFaultsOfPrograms : Type 0
AreFaultsOfPrograms = (p : Program) (flow : Flow) (kind : ℕ) (place : Place) → flow_of p ≡ Some flow → IsFlow flow → RunFaults flow kind place → IsMet p kind place
