use Rattle.std.proofs.Common.{take, drop}
use Rattle.graph.specs.declared.object.Object.{Object}
use Rattle.changes.specs.Ranges.{with_range}
use Rattle.changes.proofs.Entries.{made_there, ok_follows}
use Rattle.range_steps.proofs.writing.copy_at.Goals as goal

pub returns : goal.returns
returns c =
    ok_follows c.copy_into.result
    (made_there (λ (object : Object). with_range object c.args.at c.args.count c.args.edges.now (take c.args.count (drop c.args.from c.args.plane.now))) c.args.objects.now.items c.args.key c.args.key c.index_mut.result.now c.copy_into.new.object
    c.requires.ascending c.requires.within c.index_mut.ensures.value c.requires.key c.requires.object)
    c.copy_into.ensures
