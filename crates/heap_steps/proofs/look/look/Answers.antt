use Rattle.std.proofs.Common.{ap, sym, subst}
use Rattle.graph.specs.Whole.{IsGraph}
use Rattle.heap_steps.specs.Looking.{looked}
use Rattle.heap_steps.proofs.Answered.{post_is}
use Rattle.heap_steps.proofs.look.look.Goals as goal

pub look_in-requires : goal.look_in-requires
look_in-requires c = record { graph = subst IsGraph (sym c.in_ok-graph.ensures) c.requires.graph }

pub returns : goal.returns
returns c = post_is (looked c.in_ok-graph.graph) (looked c.args.parts) c.look_in.result (ap looked c.in_ok-graph.ensures) c.look_in.ensures
