use Rattle.cover.proofs.Free.{covers-stands}
use Rattle.cover.proofs.laws.what_is_covered_is_stood_for.Goals as goal

pub returns : goal.returns
returns c = λ wide narrow state wide_is limits covers stands. covers-stands wide narrow wide_is limits covers state stands.given stands.meets
