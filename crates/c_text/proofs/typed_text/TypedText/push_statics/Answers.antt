-- Those of the file, and those inside functions.
use Rattle.std.proofs.Common.{Bool, true, false, List, [], map, Option, sym, subst}
use Rattle.std.proofs.lemmas.List.{map-append}
use Rattle.typing.specs.Outcomes.{ObjectRow}
use Rattle.c_machine.specs.declared.object.Object.{Object}
use Rattle.c_machine.specs.Program.{fixed_in}
use Rattle.c_machine.specs.Trees.{object_of}
use Rattle.c_text.specs.Kept.{sized, IsPushed}
use Rattle.c_text.proofs.Following.{on_ok}
use Rattle.c_text.proofs.PushedObjects.{front_lacks, pushed_both}
use Rattle.c_text.proofs.typed_text.TypedText.push_statics.Goals as goal

pub returns-then-branch : goal.returns-then-branch
returns-then-branch c = on_ok _ _ c.push_fixed-then-branch.result
    (λ whole pushed. λ n p stands.
    let size : ObjectRow → Option Object = λ row. sized (object_of p row) in
    let front = subst (λ (whole : Bool). IsPushed c.args.objects.now.items (map size (fixed_in p.handed true p.handed)) whole c.push_fixed.new.objects.items)
    c.if-branch.true (c.in_ok-push_fixed.ensures n p stands) in
    subst (λ (sizes : List (Option Object)). IsPushed [] sizes whole c.push_fixed-then-branch.new.objects.items)
    (sym (map-append size (fixed_in p.handed true p.handed) (fixed_in p.handed false p.handed)))
    (pushed_both (map size (fixed_in p.handed true p.handed)) (map size (fixed_in p.handed false p.handed)) c.push_fixed.new.objects.items whole
    c.push_fixed-then-branch.new.objects.items
    (subst (λ (before : List Object). IsPushed before (map size (fixed_in p.handed true p.handed)) true c.push_fixed.new.objects.items) c.requires front)
    (pushed n p stands)))
    c.push_fixed-then-branch.ensures

pub returns-else-branch : goal.returns-else-branch
returns-else-branch c = λ n p stands.
    let size : ObjectRow → Option Object = λ row. sized (object_of p row) in
    let front = subst (λ (whole : Bool). IsPushed c.args.objects.now.items (map size (fixed_in p.handed true p.handed)) whole c.push_fixed.new.objects.items)
    c.if-branch.false (c.in_ok-push_fixed.ensures n p stands) in
    subst (λ (sizes : List (Option Object)). IsPushed [] sizes false c.push_fixed.new.objects.items)
    (sym (map-append size (fixed_in p.handed true p.handed) (fixed_in p.handed false p.handed)))
    (front_lacks (map size (fixed_in p.handed true p.handed)) (map size (fixed_in p.handed false p.handed)) c.push_fixed.new.objects.items
    c.push_fixed.new.objects.items
    (subst (λ (before : List Object). IsPushed before (map size (fixed_in p.handed true p.handed)) false c.push_fixed.new.objects.items) c.requires front))
