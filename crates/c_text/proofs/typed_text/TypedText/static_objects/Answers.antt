-- All of them, or not.
use Rattle.std.proofs.Common.{Bool, true, false, [], map, subst}
use Rattle.typing.specs.Outcomes.{ObjectRow}
use Rattle.c_machine.specs.Trees.{object_of, static_rows}
use Rattle.c_text.specs.Kept.{sized, IsPushed}
use Rattle.c_text.proofs.PushedObjects.{pushed_whole}
use Rattle.c_text.proofs.typed_text.TypedText.static_objects.Goals as goal

pub returns-then-branch : goal.returns-then-branch
returns-then-branch c = λ n p stands.
    pushed_whole (object_of p) (static_rows p) true c.push_statics.new.objects.items
    (subst (λ (whole : Bool). IsPushed [] (map (λ (row : ObjectRow). sized (object_of p row)) (static_rows p)) whole c.push_statics.new.objects.items)
    c.if-branch.true (c.in_ok-push_statics.ensures n p stands))

pub returns-else-branch : goal.returns-else-branch
returns-else-branch c = λ n p stands.
    pushed_whole (object_of p) (static_rows p) false c.push_statics.new.objects.items
    (subst (λ (whole : Bool). IsPushed [] (map (λ (row : ObjectRow). sized (object_of p row)) (static_rows p)) whole c.push_statics.new.objects.items)
    c.if-branch.false (c.in_ok-push_statics.ensures n p stands))
