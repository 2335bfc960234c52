use Rattle.std.proofs.Common.{[]}
use Rattle.register_steps.specs.Lines.{input_line}
use Rattle.register_steps.specs.States.{GivesInput}
use Rattle.register_steps.proofs.Ready.{may_line, post_means}
use Rattle.register_steps.proofs.Simple.{input_right}
use Rattle.register_steps.proofs.steps.input.Goals as goal

pub line_post-requires : goal.line_post-requires
line_post-requires c = record { may = may_line c.args.graph.now (GivesInput c.args.size c.args.truth) c.args.size c.input_line.result (input_line c.args.size c.args.truth) c.input_line.ensures (input_right c.args.graph.now c.args.size c.args.truth c.requires.size) }

pub returns-clause-means : goal.returns-clause-means
returns-clause-means c =
    post_means c.args.graph.now [] c.args.into (GivesInput c.args.size c.args.truth) c.args.size c.input_line.result (input_line c.args.size c.args.truth) c.line_post.result c.line_post.ensures.graph c.input_line.ensures
    (input_right c.args.graph.now c.args.size c.args.truth c.requires.size)
    c.line_post.ensures.post
