use Rattle.std.proofs.Common.{List, sym, ◌∙◌, subst}
use Rattle.std.specs.Prelude.{◌↔◌}
use Rattle.std.specs.List.{All}
use Rattle.graph.specs.declared.parts.Parts.{Parts}
use Rattle.graph.specs.Meaning.{StandsFor}
use Rattle.changes.specs.Posted.{SomeStandsFor}
use Rattle.materialise.specs.Kept.{HoldsAsBefore}
use Rattle.materialise.proofs.SplitCases.{cases_hold, cases_mean}
use Rattle.materialise.proofs.cases.first_node.Goals as goal

pub returns-in-Ok-clause-holds : goal.returns-in-Ok-clause-holds
returns-in-Ok-clause-holds c =
    subst (λ (graphs : List Parts). All (HoldsAsBefore c.args.graph.now) graphs) (sym c.in-Ok.ensures.ok)
    (cases_hold c.args.graph.now c.object_count.ensures.graph c.args.object c.requires (sym c.may_be_split-room.ensures ∙ c.if-not-room.false))

pub returns-in-Ok-clause-means : goal.returns-in-Ok-clause-means
returns-in-Ok-clause-means c = λ state.
    subst (λ (graphs : List Parts). StandsFor c.args.graph.now state ↔ SomeStandsFor graphs state) (sym c.in-Ok.ensures.ok)
    (cases_mean c.args.graph.now c.object_count.ensures.graph c.args.object c.requires (sym c.may_be_split-room.ensures ∙ c.if-not-room.false) c.in-Ok.ensures.offsets state)
