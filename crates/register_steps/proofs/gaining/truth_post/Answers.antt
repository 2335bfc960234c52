use Rattle.std.proofs.Common.{sym, subst, arith}
use Rattle.graph.specs.declared.value.Value.TheVariants.{Const}
use Rattle.graph.specs.Whole.{IsGraph}
use Rattle.register_steps.proofs.Gained.{truth_fit, graph_fresh}
use Rattle.register_steps.proofs.gaining.truth_post.Goals as goal

pub with_graphs-requires-clause-one : goal.with_graphs-requires-clause-one
with_graphs-requires-clause-one c =
    subst IsGraph (sym c.in-Ok.ensures) (graph_fresh c.args.graph.now c.requires.graph c.args.gone.now c.args.into (Const 0 c.args.size) (truth_fit c.args.graph.now 0 c.args.size (omega arith) c.requires.may))

pub with_graphs-requires-clause-other : goal.with_graphs-requires-clause-other
with_graphs-requires-clause-other c =
    subst IsGraph (sym c.in-Ok-gained_fresh.ensures) (graph_fresh c.args.graph.now c.requires.graph c.args.gone.now c.args.into (Const 1 c.args.size) (truth_fit c.args.graph.now 1 c.args.size (omega arith) c.requires.may))
