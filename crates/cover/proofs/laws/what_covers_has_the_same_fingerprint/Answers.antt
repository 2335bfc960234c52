use Rattle.cover.proofs.Celled.{same_fingerprint}
use Rattle.cover.proofs.laws.what_covers_has_the_same_fingerprint.Goals as goal

pub returns : goal.returns
returns c = same_fingerprint
