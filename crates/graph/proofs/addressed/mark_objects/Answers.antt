use Rattle.std.proofs.Common.{◌≡◌, ◌+◌, Bool, List, drop, Some, sym, ap, ◌∙◌}
use Rattle.std.specs.Prelude.{slice_get}
use Rattle.std.specs.Option.{option_copied}
use Rattle.graph.specs.declared.object.Object.{Object}
use Rattle.graph.specs.Addressed.{marked_object, marked_objects}
use Rattle.graph.proofs.AllMarked.{fold_left}
use Rattle.graph.proofs.addressed.mark_objects.Goals as goal

pub loop-key-preserved : goal.loop-key-preserved
loop-key-preserved c =
    let object = c.in-Some.object.now in
    let stands : slice_get c.args.objects.now c.loop-key.key ≡ Some object = sym c.get.ensures ∙ ap option_copied c.in-Some.is in
    c.loop-key.invariant
    ∙ fold_left (λ marks (object : Object). marked_object c.args.values.now marks object) c.loop-key.marks c.args.objects.now c.loop-key.key object stands
    ∙ ap (λ (marks : List Bool). marked_objects c.args.values.now marks (drop (c.loop-key.key + 1) c.args.objects.now)) (sym c.mark_those_of.ensures)
