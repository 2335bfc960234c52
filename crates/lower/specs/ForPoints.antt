-- The points of a `for` as the code makes them.
use Rattle.std.specs.Prelude.{◌≡◌, suc, Bool, true, false}
use Rattle.flow.specs.declared.flow_graph.Standing.{Standing}
use Rattle.lower.specs.declared.placing.loops.ForPoints.{ForPoints}
use Rattle.lowering.specs.Placing.{Made, with_head, with_point}

-- what is done behind a turn begins at the head, or at a point of its own
abbrev pub AreForPoints : Bool → Standing → Made → ForPoints → Made → Type 0
AreForPoints true entered before points after =
    (points ≡ record { head = before.points; out = suc before.points; again = before.points })
    × (after ≡ with_head before.points (with_point entered (with_point entered before)))
AreForPoints false entered before points after =
    (points ≡ record { head = before.points; out = suc before.points; again = suc (suc before.points) })
    × (after ≡ with_head before.points (with_point entered (with_point entered (with_point entered before))))
