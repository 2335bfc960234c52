use Rattle.std.proofs.Common.{[], ◌∷◌}
use Rattle.register_steps.specs.Gaining.{size_held}
use Rattle.register_steps.specs.States.{GivesConverted}
use Rattle.register_steps.specs.Steps.{line_of_convert}
use Rattle.register_steps.proofs.Ready.{may_line, post_means}
use Rattle.register_steps.proofs.Computed.{convert_right}
use Rattle.register_steps.proofs.steps.convert.Goals as goal

pub line_post-requires : goal.line_post-requires
line_post-requires c = record { may = may_line c.args.graph.now (GivesConverted c.args.from (size_held c.args.graph.now c.args.from) c.args.size c.args.signed) c.args.size c.line_of_convert.result (line_of_convert c.args.graph.now c.args.from c.args.size c.args.signed) c.line_of_convert.ensures.line (convert_right c.args.graph.now c.line_of_convert.ensures.graph c.args.from c.args.size c.args.signed c.requires.size) }

pub returns-clause-means : goal.returns-clause-means
returns-clause-means c =
    post_means c.args.graph.now (c.args.from ∷ []) c.args.into (GivesConverted c.args.from (size_held c.args.graph.now c.args.from) c.args.size c.args.signed) c.args.size c.line_of_convert.result (line_of_convert c.args.graph.now c.args.from c.args.size c.args.signed) c.line_post.result c.line_post.ensures.graph c.line_of_convert.ensures.line
    (convert_right c.args.graph.now c.line_of_convert.ensures.graph c.args.from c.args.size c.args.signed c.requires.size)
    c.line_post.ensures.post
