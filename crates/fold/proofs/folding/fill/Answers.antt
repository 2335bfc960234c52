use Rattle.std.proofs.Common.{◌∙◌, ap, map, not, nat_eq}
use Rattle.std.specs.List.{filter}
use Rattle.graph.specs.declared.object.Object.{Object}
use Rattle.changes.specs.Parts.{replaced}
use Rattle.fold.proofs.Entries.{on_any}
use Rattle.fold.proofs.folding.fill.Goals as goal

pub returns-in-Ok-put_objects-clause-objects : goal.returns-in-Ok-put_objects-clause-objects
returns-in-Ok-put_objects-clause-objects c =
    on_any c.push_folded.result
    (c.in-Ok-put_objects.ensures
    ∙ ap (λ (object : Object). filter (λ entry. not (nat_eq entry.key c.args.fold.now.second)) (map (replaced c.args.fold.now.first object) c.args.graph.now.objects)) c.in-Ok.ensures)
