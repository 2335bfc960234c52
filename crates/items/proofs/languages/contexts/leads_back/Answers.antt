-- The numbering that a context has is made one that leads back.
use Rattle.items.proofs.languages.LeadingBack.{leading_back}
use Rattle.items.proofs.languages.contexts.leads_back.Goals as goal

pub returns : goal.returns
returns c = leading_back c.args.context.now c.has_a_numbering.ensures.0 c.has_a_numbering.ensures.1
