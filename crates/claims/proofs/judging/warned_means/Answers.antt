-- What `warned` means.
use Rattle.claims.proofs.Meanings.{warned}
use Rattle.claims.proofs.judging.warned_means.Goals as goal

pub returns : goal.returns
returns c = λ tells content left file limits names warnings complete answered. warned tells content left limits file names warnings complete answered
