-- An array of other items, or none.
use Rattle.std.proofs.Common.{◌≡◌, not, eqb, Option, None, Some, sym, ap, subst, ◌∙◌}
use Rattle.std.specs.Prelude.{option_map}
use Rattle.cbase.specs.declared.ctype.CType.{CType}
use Rattle.cbase.specs.declared.ctype.CType.TheViews.{out-CType}
use Rattle.typing.specs.Declarations.{AreTwo, items_in}
use Rattle.items.proofs.declarations.OneNumber.{apart, items_are, two_some}
use Rattle.items.proofs.declarations.again.is_of_others.Goals as goal

pub returns-in-Some : goal.returns-in-Some
returns-in-Some c = λ n agrees.
    let items : Some (n.ctype c.in-Some.there) ≡ items_in (out-CType (n.ctype c.args.number)) =
    ap (option_map n.ctype) (sym c.in-Some.is) ∙ (c.item.ensures.is n agrees ∙ items_are c.args.context.now.structs (n.ctype c.args.number)) in
    subst (λ (there : Option CType). AreTwo there (Some (n.ctype c.args.item)) (not (eqb c.in-Some.there c.args.item))) items
    (two_some n c.args.context.now agrees c.in-Some.there c.args.item (not (eqb c.in-Some.there c.args.item)) c.in-Some.ensures.below c.requires.item (apart c.in-Some.there c.args.item))

pub returns-in-None : goal.returns-in-None
returns-in-None c = λ n agrees.
    let items : None ≡ items_in (out-CType (n.ctype c.args.number)) =
    ap (option_map n.ctype) (sym c.in-None.is) ∙ (c.item.ensures.is n agrees ∙ items_are c.args.context.now.structs (n.ctype c.args.number)) in
    λ same. cc (items, same)
