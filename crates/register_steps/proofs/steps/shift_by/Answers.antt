use Rattle.std.proofs.Common.{[], ◌∷◌, ap, ◌∙◌}
use Rattle.std.specs.Int.{w64}
use Rattle.std.proofs.lemmas.Int.{to_z-of_z}
use Rattle.register_steps.specs.States.{GivesShiftedBy}
use Rattle.register_steps.specs.Steps.{line_of_shift_by}
use Rattle.register_steps.proofs.Ready.{may_line, post_means}
use Rattle.register_steps.proofs.Shifted.{shift_by_right}
use Rattle.register_steps.proofs.steps.shift_by.Goals as goal

pub line_post-requires : goal.line_post-requires
line_post-requires c = record { may = may_line c.args.graph.now (GivesShiftedBy c.args.at c.args.by c.args.scale) 8 c.line_of_shift_by.result (line_of_shift_by c.args.graph.now c.args.at c.args.by c.args.scale) (c.line_of_shift_by.ensures.line ∙ ap (line_of_shift_by c.args.graph.now c.args.at c.args.by) (to_z-of_z w64 c.args.scale c.ranges.scale)) (shift_by_right c.args.graph.now c.line_of_shift_by.ensures.graph c.args.at c.args.by c.args.scale) }

pub returns-clause-means : goal.returns-clause-means
returns-clause-means c =
    post_means c.args.graph.now (c.args.at ∷ c.args.by ∷ []) c.args.into (GivesShiftedBy c.args.at c.args.by c.args.scale) 8 c.line_of_shift_by.result (line_of_shift_by c.args.graph.now c.args.at c.args.by c.args.scale) c.line_post.result c.line_post.ensures.graph (c.line_of_shift_by.ensures.line ∙ ap (line_of_shift_by c.args.graph.now c.args.at c.args.by) (to_z-of_z w64 c.args.scale c.ranges.scale))
    (shift_by_right c.args.graph.now c.line_of_shift_by.ensures.graph c.args.at c.args.by c.args.scale)
    c.line_post.ensures.post
