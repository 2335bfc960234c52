-- The language of a context carries over to that of C.
use Rattle.items.proofs.languages.CCarries.{carries}
use Rattle.items.proofs.languages.contexts.contexts_carry_over.Goals as goal

pub returns : goal.returns
returns c = carries
