use Rattle.std.proofs.Common.{◌≡◌, List, Bool, ap, ◌∙◌}
use Rattle.graph.specs.Unheld.{with_only}
use Rattle.tidying.specs.Held.{stays, object_stays}
use Rattle.tidying.specs.Marks.{is_marked, object_marks}
use Rattle.tidying.proofs.Answered.{if_ok}
use Rattle.tidying.proofs.Told.{kept_marked}
use Rattle.tidying.proofs.outcome.kept.Goals as goal

pub returns : goal.returns
returns c =
    let parts = c.args.parts in
    let values = c.as_slice-in-Ok-object_marks.result.now in
    let objects = c.as_slice-in-Ok-object_marks-2.result.now in
    if_ok (λ kept. kept ≡ with_only (is_marked values) (is_marked objects) parts) (λ kept. kept ≡ with_only (stays parts) (object_stays parts) parts)
    (λ kept is. is ∙ kept_marked parts c.requires values objects (c.as_slice-in-Ok-object_marks.ensures.value ∙ c.in-Ok.ensures)
    (c.as_slice-in-Ok-object_marks-2.ensures.value ∙ c.in-Ok-object_marks.ensures ∙ ap (λ (marks : List Bool). object_marks parts marks) (c.as_slice.ensures.value ∙ c.in-Ok.ensures)))
    c.with_marked.result c.with_marked.ensures
