use Rattle.std.proofs.Common.{sym, subst, refl}
use Rattle.graph.specs.declared.parts.Parts.{Parts}
use Rattle.graph.specs.WellFormed.{HasAscendingKeys}
use Rattle.fold.proofs.Case.{folded_ascends}
use Rattle.fold.proofs.Formed.{foldable_is, not_none, not_err}
use Rattle.fold.proofs.deciding.makes_graph.Goals as goal

pub graph_of-requires : goal.graph_of-requires
graph_of-requires c = subst (λ (p : Parts). HasAscendingKeys p) (sym c.in-Ok.ensures.ok) (folded_ascends c.args.graph.now c.in-Ok.ensures.graph c.args.fold.now c.requires)

pub returns-in-Ok-Some : goal.returns-in-Ok-Some
returns-in-Ok-Some c = (
  λ _. foldable_is c.args.graph.now c.in-Ok.ensures.graph c.args.fold.now c.requires c.in-Ok.parts c.in-Ok.ensures.ok
      (λ refused. not_none c.graph_of.result c.in-Ok-Some.field-0 _ c.in-Ok-Some.is c.in-Ok-Some.field-0-is (c.graph_of.ensures.none.1 refused))
      (λ large. not_err c.graph_of.result c.in-Ok-Some.field-0 _ _ c.in-Ok-Some.is c.in-Ok-Some.field-0-is (c.graph_of.ensures.large.1 large)),
  λ _. refl,
)
