use Rattle.std.proofs.Common.{replicate}
use Rattle.graph.specs.declared.object.Object.{Object}
use Rattle.changes.specs.Ranges.{with_range}
use Rattle.changes.proofs.Entries.{made_there, ok_follows}
use Rattle.changes.proofs.writing.put_at.Goals as goal

pub returns : goal.returns
returns c =
    ok_follows c.put_into.result
    (made_there (λ (object : Object). with_range object c.args.from c.args.count c.args.inside.now (replicate c.args.count c.args.class)) c.args.objects.now.items c.args.key c.args.key c.index_mut.result.now c.put_into.new.object
    c.requires.ascending c.requires.within c.index_mut.ensures.value c.requires.key c.requires.object)
    c.put_into.ensures
