-- What `warned` means where all was followed.
use Rattle.claims.proofs.Meanings.{complete}
use Rattle.claims.proofs.judging.complete_warnings_mean.Goals as goal

pub returns : goal.returns
returns c = λ tells content left file limits names warnings answered. complete tells content left limits file names warnings answered
