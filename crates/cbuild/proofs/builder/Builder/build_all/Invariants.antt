use Rattle.std.proofs.Common.{length, ◌-◌, ◌≡◌, drop, Some}
use Rattle.cevents.specs.Building.{built_all}
use Rattle.cbuild.proofs.builder.Builder.build_all.Given as goal

abbrev pub invariant-loop-index : goal.invariant-loop-index
invariant-loop-index l = built_all l.row (drop l.index l.events) (Some l.self) ≡ built_all l.row l.events (Some l.initial.self)

abbrev pub decreases-loop-index : goal.decreases-loop-index
decreases-loop-index l = length l.events - l.index
