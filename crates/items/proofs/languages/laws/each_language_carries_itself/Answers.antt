-- The language of the examples carries over to itself.
use Rattle.typing.specs.Sample.{sample}
use Rattle.typing.specs.SampleFile.{file}
use Rattle.items.proofs.languages.Itself.{carries_itself}
use Rattle.items.proofs.languages.laws.each_language_carries_itself.Goals as goal

pub returns : goal.returns
returns c = carries_itself sample file
