use Rattle.std.proofs.Common.{ap, ◌∙◌}
use Rattle.heap_steps.specs.Leaving.{left}
use Rattle.heap_steps.specs.Looking.{looked}
use Rattle.heap_steps.proofs.Answered.{post_is}
use Rattle.heap_steps.proofs.LeaveReady.{left_ready}
use Rattle.heap_steps.proofs.leaving.left_post.Goals as goal

pub look-requires : goal.look-requires
look-requires c = record {
  graph = left_ready c.args.which.now c.args.graph.now c.in_ok-parts.parts c.in_ok-after.after c.value_count.ensures.graph c.requires.may c.in_ok-parts.ensures.ok c.in_ok-after.ensures;
}

pub returns-clause-post : goal.returns-clause-post
returns-clause-post c =
    post_is (looked c.in_ok-after.after) (looked (left c.args.which.now c.args.graph.now)) c.look.result
    (ap looked (c.in_ok-after.ensures ∙ ap (left c.args.which.now) c.in_ok-parts.ensures.ok)) c.look.ensures
