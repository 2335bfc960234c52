use Rattle.std.proofs.Common.{sym, ◌∙◌}
use Rattle.settle.proofs.Names.{held_leads}
use Rattle.settle.proofs.cases.cases_by.Goals as goal

pub cases_of-requires-clause-leads : goal.cases_of-requires-clause-leads
cases_of-requires-clause-leads c = held_leads c.args.graph.now c.value_held.ensures.graph.well_formed c.args.register c.in-Some.value (sym c.value_held.ensures.value ∙ c.in-Some.is)
