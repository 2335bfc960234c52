use Rattle.tidying.proofs.Tidy.{few_nodes}
use Rattle.tidying.proofs.laws.tidy_graphs_have_few_nodes.Goals as goal

pub returns : goal.returns
returns c = λ parts bound graph tidy small. few_nodes parts bound graph tidy small
