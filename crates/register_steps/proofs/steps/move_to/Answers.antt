use Rattle.std.proofs.Common.{[]}
use Rattle.register_steps.specs.Gaining.{size_held}
use Rattle.register_steps.specs.States.{GivesHeld}
use Rattle.register_steps.specs.Steps.{line_of_move}
use Rattle.register_steps.proofs.Ready.{may_line, post_means}
use Rattle.register_steps.proofs.Simple.{move_right}
use Rattle.register_steps.proofs.steps.move_to.Goals as goal

pub line_post-requires : goal.line_post-requires
line_post-requires c = record { may = may_line c.args.graph.now (GivesHeld c.args.from) (size_held c.args.graph.now c.args.from) c.line_of_move.result (line_of_move c.args.graph.now c.args.from) c.line_of_move.ensures.line (move_right c.args.graph.now c.args.from c.line_of_move.ensures.graph) }

pub returns-clause-means : goal.returns-clause-means
returns-clause-means c =
    post_means c.args.graph.now [] c.args.into (GivesHeld c.args.from) (size_held c.args.graph.now c.args.from) c.line_of_move.result (line_of_move c.args.graph.now c.args.from) c.line_post.result c.line_post.ensures.graph c.line_of_move.ensures.line
    (move_right c.args.graph.now c.args.from c.line_of_move.ensures.graph)
    c.line_post.ensures.post
