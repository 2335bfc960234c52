-- Ways of moves as the code tells them.
use Rattle.std.specs.Prelude.{◌≡◌, ℕ, Bool, true, false, Option, None, Some}
use Rattle.c_machine.specs.declared.object.Object.{Object}
use Rattle.flow.specs.declared.flow_graph.Standing.{Standing}
use Rattle.lower.specs.declared.placing.ways.Way.{Way as Told}
use Rattle.lower.specs.declared.placing.ways.Way.TheVariants as told
use Rattle.lowering.specs.Placing.{Way, Idle, Leads, Goes, Begin, Here, New, Made, with_point}

abbrev pub way_in : Told → Way
way_in told.Idle = Idle
way_in (told.Leads to) = Leads to
way_in told.Goes = Goes

abbrev pub begin_in : Option ℕ → Begin
begin_in None = New
begin_in (Some point) = Here point

-- the point where moves begin, and what is made with it
abbrev pub BeginsAt : Option ℕ → Standing → ℕ → Made → Made → Type 0
BeginsAt None standing point before after = (point ≡ before.points) × (after ≡ with_point standing before)
BeginsAt (Some there) standing point before after = (point ≡ there) × (after ≡ before)

-- it is told that there is no object
abbrev pub is_no_object : Option (Option Object) → Bool
is_no_object None = false
is_no_object (Some None) = true
is_no_object (Some (Some object)) = false
