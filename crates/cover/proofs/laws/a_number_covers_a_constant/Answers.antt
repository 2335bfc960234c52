use Rattle.cover.proofs.ExampleCovers.{example}
use Rattle.cover.proofs.laws.a_number_covers_a_constant.Goals as goal

pub returns : goal.returns
returns c = example
