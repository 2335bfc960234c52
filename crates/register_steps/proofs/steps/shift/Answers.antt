use Rattle.std.proofs.Common.{[], ◌∷◌, ap, ◌∙◌}
use Rattle.std.specs.Int.{w64}
use Rattle.std.proofs.lemmas.Int.{to_z-of_z}
use Rattle.register_steps.specs.States.{GivesShifted}
use Rattle.register_steps.specs.Steps.{line_of_shift}
use Rattle.register_steps.proofs.Ready.{may_line, post_means}
use Rattle.register_steps.proofs.Shifted.{shift_right}
use Rattle.register_steps.proofs.steps.shift.Goals as goal

pub line_post-requires : goal.line_post-requires
line_post-requires c = record { may = may_line c.args.graph.now (GivesShifted c.args.at c.args.by) 8 c.line_of_shift.result (line_of_shift c.args.graph.now c.args.at c.args.by) (c.line_of_shift.ensures.line ∙ ap (line_of_shift c.args.graph.now c.args.at) (to_z-of_z w64 c.args.by c.ranges.by)) (shift_right c.args.graph.now c.line_of_shift.ensures.graph c.args.at c.args.by) }

pub returns-clause-means : goal.returns-clause-means
returns-clause-means c =
    post_means c.args.graph.now (c.args.at ∷ []) c.args.into (GivesShifted c.args.at c.args.by) 8 c.line_of_shift.result (line_of_shift c.args.graph.now c.args.at c.args.by) c.line_post.result c.line_post.ensures.graph (c.line_of_shift.ensures.line ∙ ap (line_of_shift c.args.graph.now c.args.at) (to_z-of_z w64 c.args.by c.ranges.by))
    (shift_right c.args.graph.now c.line_of_shift.ensures.graph c.args.at c.args.by)
    c.line_post.ensures.post
