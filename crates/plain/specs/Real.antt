-- Trails of plain flow graphs, as the analysis makes them.
use Rattle.std.specs.Prelude.{ℕ, ◌<◌, List, length}
use Rattle.flow.specs.declared.flow_graph.Flow.{Flow}
use Rattle.flow.specs.Valid.{IsFlow}
use Rattle.trail.specs.declared.trail.Entry.{Entry}
use Rattle.trail.specs.Seen.{HasNoCalls}
use Rattle.trail.specs.Theorems.{HaveOffsets}
use Rattle.trail.specs.Trail.{AreHonest}
use Rattle.driver.specs.Driven.{driven, widening}
use Rattle.driver.specs.Errors.{alike_runs}
use Rattle.plain.specs.Chain.{IsTrailPlain}
use Rattle.plain.specs.PlainRuns.{IsPlain}

-- no post of an entry of an honest trail of a plain flow graph names a loss, and none has more than one graph
abbrev pub AreDrivenTrailsPlain : Type 0
AreDrivenTrailsPlain = (flow : Flow) (limit : ℕ) (trail : List Entry) → IsFlow flow → HaveOffsets flow → HasNoCalls flow → length flow.variables < 33554432 → IsPlain flow → AreHonest driven (widening limit) flow trail →
    IsTrailPlain driven alike_runs flow trail
