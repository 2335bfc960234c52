use Rattle.changes.specs.Dying.{died}
use Rattle.changes.proofs.Entries.{made_there, ok_follows}
use Rattle.changes.proofs.dying.end_at.Goals as goal

pub returns : goal.returns
returns c =
    ok_follows c.end_object.result
    (made_there died c.args.objects.now.items c.args.key c.args.key c.index_mut.result.now c.end_object.new.object c.requires.ascending c.requires.within c.index_mut.ensures.value c.requires.key c.requires.object)
    c.end_object.ensures
