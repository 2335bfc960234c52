use Rattle.fold.proofs.Entries.{put_there}
use Rattle.fold.proofs.folding.put_at.Goals as goal

pub returns : goal.returns
returns c = put_there c.args.objects.now.items c.args.key c.args.key c.index_mut.result.now c.args.object c.requires.ascending c.requires.within c.index_mut.ensures.value c.requires.key
