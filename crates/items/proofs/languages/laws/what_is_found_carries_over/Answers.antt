-- What is found carries over with its language.
use Rattle.typing.specs.Sample.{sample}
use Rattle.typing.specs.SampleFile.{file}
use Rattle.items.specs.languages.Laws.{Anywhere}
use Rattle.items.proofs.languages.Carried.{carried}
use Rattle.items.proofs.languages.laws.what_is_found_carries_over.Goals as goal

pub returns : goal.returns
returns c = λ to carries. carried sample sample file file to Anywhere carries
