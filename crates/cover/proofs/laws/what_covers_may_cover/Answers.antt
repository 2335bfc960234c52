use Rattle.cover.proofs.Sight.{covers_agree}
use Rattle.cover.proofs.laws.what_covers_may_cover.Goals as goal

pub returns : goal.returns
returns c = covers_agree
