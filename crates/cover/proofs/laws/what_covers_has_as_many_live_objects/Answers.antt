use Rattle.cover.proofs.Counting.{covers_count}
use Rattle.cover.proofs.laws.what_covers_has_as_many_live_objects.Goals as goal

pub returns : goal.returns
returns c = covers_count
