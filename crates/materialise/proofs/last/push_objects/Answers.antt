use Rattle.std.proofs.Common.{◌∙◌}
use Rattle.changes.proofs.Entries.{ok_follows}
use Rattle.materialise.proofs.FinalCode.{objects_are}
use Rattle.materialise.proofs.last.push_objects.Goals as goal

pub returns-in-Ok-push_rest_before : goal.returns-in-Ok-push_rest_before
returns-in-Ok-push_rest_before c =
    ok_follows c.push.result
    (λ is.
    is
    ∙ objects_are c.args.graph.now c.args.key c.args.object.now c.args.links.now c.requires.graph c.requires.object c.args.own.now c.object_count-region.result c.value_count-from.result c.args.objects c.push_rest_before.new.kept c.in-Ok.new
    c.requires.own c.object_count-region.ensures.count c.value_count-from.ensures.count c.requires.same c.in-Ok-push_rest_before.ensures c.in-Ok.ensures)
    c.push.ensures.ok
