use Rattle.std.proofs.Common.{[], ◌∷◌}
use Rattle.register_steps.specs.Lines.{size_given}
use Rattle.register_steps.specs.States.{GivesComputed}
use Rattle.register_steps.specs.Steps.{line_of_compute}
use Rattle.register_steps.proofs.Ready.{may_line, post_means}
use Rattle.register_steps.proofs.Computed.{compute_right}
use Rattle.register_steps.proofs.steps.compute.Goals as goal

pub line_post-requires : goal.line_post-requires
line_post-requires c = record { may = may_line c.args.graph.now (GivesComputed c.args.op c.args.left c.args.right c.args.size c.args.signed) (size_given c.args.op c.args.size) c.line_of_compute.result (line_of_compute c.args.graph.now c.args.op c.args.left c.args.right c.args.size c.args.signed) c.line_of_compute.ensures.line (compute_right c.args.graph.now c.line_of_compute.ensures.graph c.args.op c.args.left c.args.right c.args.size c.args.signed c.requires.size) }

pub returns-clause-means : goal.returns-clause-means
returns-clause-means c =
    post_means c.args.graph.now (c.args.left ∷ c.args.right ∷ []) c.args.into (GivesComputed c.args.op c.args.left c.args.right c.args.size c.args.signed) (size_given c.args.op c.args.size) c.line_of_compute.result (line_of_compute c.args.graph.now c.args.op c.args.left c.args.right c.args.size c.args.signed) c.line_post.result c.line_post.ensures.graph c.line_of_compute.ensures.line
    (compute_right c.args.graph.now c.line_of_compute.ensures.graph c.args.op c.args.left c.args.right c.args.size c.args.signed c.requires.size)
    c.line_post.ensures.post
