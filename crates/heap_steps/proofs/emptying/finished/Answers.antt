use Rattle.std.proofs.Common.{sym, ap, ◌∙◌, subst}
use Rattle.graph.specs.Whole.{IsGraph}
use Rattle.changes.specs.Parts.{without_registers}
use Rattle.changes.proofs.RegisterForm.{graph_without}
use Rattle.heap_steps.specs.Looking.{looked}
use Rattle.heap_steps.proofs.Answered.{post_is}
use Rattle.heap_steps.proofs.emptying.finished.Goals as goal

pub look-requires : goal.look-requires
look-requires c = record {
  graph = subst IsGraph (sym (c.in_ok-left.ensures ∙ ap (without_registers c.args.gone.now) c.in_ok-parts.ensures.ok)) (graph_without c.args.gone.now c.args.graph.now c.value_count.ensures.graph);
}

pub returns-clause-post : goal.returns-clause-post
returns-clause-post c =
    post_is (looked c.in_ok-left.left) (looked (without_registers c.args.gone.now c.args.graph.now)) c.look.result
    (ap looked (c.in_ok-left.ensures ∙ ap (without_registers c.args.gone.now) c.in_ok-parts.ensures.ok)) c.look.ensures
