use Rattle.std.proofs.Common.{◌≡◌, true, subst, sym}
use Rattle.std.specs.List.{list_all}
use Rattle.graph.specs.declared.parts.KeyedObject.{KeyedObject}
use Rattle.graph.specs.declared.parts.Parts.{Parts}
use Rattle.changes.specs.Fitting.{object_fits}
use Rattle.changes.proofs.MergedForm.{graph_fits}
use Rattle.changes.proofs.merge.merged.Goals as goal

pub merge_all-requires : goal.merge_all-requires
merge_all-requires c = record {
  inside = subst (λ (g : Parts). list_all (λ (entry : KeyedObject). object_fits entry.object) g.objects ≡ true) (sym c.in-Ok.ensures.ok) (graph_fits c.args.graph.now c.in-Ok.ensures.graph);
}
