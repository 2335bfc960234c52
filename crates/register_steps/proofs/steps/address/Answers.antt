use Rattle.std.proofs.Common.{[]}
use Rattle.register_steps.specs.States.{GivesAddress}
use Rattle.register_steps.specs.Steps.{line_of_address}
use Rattle.register_steps.proofs.Ready.{may_line, post_means}
use Rattle.register_steps.proofs.Simple.{address_right}
use Rattle.register_steps.proofs.steps.address.Goals as goal

pub line_post-requires : goal.line_post-requires
line_post-requires c = record { may = may_line c.args.graph.now (GivesAddress c.args.variable) 8 c.line_of_address.result (line_of_address c.args.graph.now c.args.variable) c.line_of_address.ensures.line (address_right c.args.graph.now c.args.variable c.line_of_address.ensures.graph) }

pub returns-clause-means : goal.returns-clause-means
returns-clause-means c =
    post_means c.args.graph.now [] c.args.into (GivesAddress c.args.variable) 8 c.line_of_address.result (line_of_address c.args.graph.now c.args.variable) c.line_post.result c.line_post.ensures.graph c.line_of_address.ensures.line
    (address_right c.args.graph.now c.args.variable c.line_of_address.ensures.graph)
    c.line_post.ensures.post
