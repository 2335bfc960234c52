use Rattle.std.proofs.Common.{[]}
use Rattle.register_steps.specs.Lines.{number_line}
use Rattle.register_steps.specs.States.{GivesNumber}
use Rattle.register_steps.proofs.Ready.{may_line, post_means}
use Rattle.register_steps.proofs.Simple.{number_right}
use Rattle.register_steps.proofs.steps.number.Goals as goal

pub line_post-requires : goal.line_post-requires
line_post-requires c = record { may = may_line c.args.graph.now (GivesNumber c.args.number) c.args.size c.exactly.result (number_line c.args.number c.args.size) c.exactly.ensures (number_right c.args.graph.now c.args.number c.args.size c.requires.sized) }

pub returns-clause-means : goal.returns-clause-means
returns-clause-means c =
    post_means c.args.graph.now [] c.args.into (GivesNumber c.args.number) c.args.size c.exactly.result (number_line c.args.number c.args.size) c.line_post.result c.line_post.ensures.graph c.exactly.ensures
    (number_right c.args.graph.now c.args.number c.args.size c.requires.sized)
    c.line_post.ensures.post
