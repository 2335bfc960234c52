use Rattle.std.proofs.Common.{◌≡◌, true, sym, subst}
use Rattle.std.specs.List.{list_all}
use Rattle.graph.specs.declared.parts.KeyedObject.{KeyedObject}
use Rattle.graph.specs.declared.parts.Parts.{Parts}
use Rattle.changes.specs.Fitting.{object_fits}
use Rattle.changes.proofs.MergedForm.{graph_fits}
use Rattle.materialise.proofs.dropped.without.Goals as goal

pub keep_objects-requires-clause-inside : goal.keep_objects-requires-clause-inside
keep_objects-requires-clause-inside c = subst (λ (g : Parts). list_all (λ (entry : KeyedObject). object_fits entry.object) g.objects ≡ true) (sym c.requires.same) (graph_fits c.args.graph.now c.requires.graph)
