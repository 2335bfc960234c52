use Rattle.std.proofs.Common.{Err, sym, subst, ap, ◌∙◌}
use Rattle.std.specs.Prelude.{◌↔◌}
use Rattle.std.proofs.lemmas.Bool.{false≢true}
use Rattle.graph.specs.declared.parts.Parts.{Parts}
use Rattle.graph.specs.Meaning.{StandsFor}
use Rattle.graph.specs.Renaming.{numbered}
use Rattle.graph.specs.WellFormed.{HasAscendingKeys, IsWellFormed, is_within_limits}
use Rattle.materialise.specs.Dropped.{dropped}
use Rattle.materialise.specs.Empty.{StandsWithout}
use Rattle.materialise.specs.Kept.{HoldsAsBefore}
use Rattle.graph.proofs.Numbered.{numbering_keeps}
use Rattle.materialise.proofs.Emptiable.{may_be}
use Rattle.materialise.proofs.Formed.{dropped_form, dropped_ascending, dropped_limits}
use Rattle.materialise.proofs.Held.{dropped_holds}
use Rattle.materialise.proofs.Without.{without}
use Rattle.materialise.proofs.dropped.drop_segment.Goals as goal

pub built-requires-clause-ascending : goal.built-requires-clause-ascending
built-requires-clause-ascending c = subst (λ (p : Parts). HasAscendingKeys p) (sym c.in-Ok.ensures.ok) (dropped_ascending c.args.graph.now c.in-Ok.ensures.graph c.args.object (may_be c.args.graph.now c.args.object c.requires))

pub built-requires-clause-well_formed : goal.built-requires-clause-well_formed
built-requires-clause-well_formed c = subst (λ (p : Parts). IsWellFormed p) (sym c.in-Ok.ensures.ok) (dropped_form c.args.graph.now c.in-Ok.ensures.graph c.args.object (may_be c.args.graph.now c.args.object c.requires))

pub unreachable-requires : goal.unreachable-requires
unreachable-requires c =
    false≢true
    (sym (c.built.ensures.large.0 (c.in-Err-Large.is ∙ ap Err c.in-Err-Large.field-0-is)) ∙ ap is_within_limits c.in-Ok.ensures.ok ∙ dropped_limits c.args.graph.now c.in-Ok.ensures.graph c.args.object (may_be c.args.graph.now c.args.object c.requires))

pub returns-in-Ok-built-clause-means : goal.returns-in-Ok-built-clause-means
returns-in-Ok-built-clause-means c = λ state.
    let graph = c.args.graph.now in
    let may = may_be graph c.args.object c.requires in
    let same = numbering_keeps (dropped c.args.object graph) state (dropped_ascending graph c.in-Ok.ensures.graph c.args.object may) (dropped_form graph c.in-Ok.ensures.graph c.args.object may) in
    let empty = without graph c.in-Ok.ensures.graph.well_formed c.args.object may state in
    subst (λ (p : Parts). StandsFor p state ↔ StandsWithout graph c.args.object state) (sym (c.in-Ok-built.ensures.ok ∙ ap numbered c.in-Ok.ensures.ok))
    (λ stands. empty.0 (same.0 stands), λ stands. same.1 (empty.1 stands))

pub returns-in-Ok-built-clause-holds : goal.returns-in-Ok-built-clause-holds
returns-in-Ok-built-clause-holds c =
    let graph = c.args.graph.now in
    subst (λ (p : Parts). HoldsAsBefore graph p) (sym (c.in-Ok-built.ensures.ok ∙ ap numbered c.in-Ok.ensures.ok)) (dropped_holds graph c.in-Ok.ensures.graph c.args.object (may_be graph c.args.object c.requires))
