-- What a declaration says of an object.
use Rattle.std.proofs.Common.{◌≡◌, ◌∙◌, List, ℕ, Option, length, ap, sym, subst, refl}
use Rattle.cbase.specs.declared.tree.expr.ExprForm.TheViews.{out-Declared}
use Rattle.typing.specs.environment.Bounds.{DeclaredBelow}
use Rattle.typing.specs.environment.Environment.{visible_type}
use Rattle.typing.specs.environment.Names.{value_in}
use Rattle.typing.specs.FileNames.{definition_by}
use Rattle.expressions.specs.Language.{definition_by_now}
use Rattle.items.specs.declarations.Given.{seen_in}
use Rattle.items.proofs.declarations.Bound.{seen_below}
use Rattle.items.proofs.giving.object_of.Goals as goal

pub returns-clause-is : goal.returns-clause-is
returns-clause-is c =
    let linked : c.linked-linked.result ≡ value_in (out-Declared c.args.name.now).name c.args.context.now.environment.linked =
    c.linked-linked.ensures.is ∙ ap (λ (text : List ℕ). value_in text c.args.context.now.environment.linked) c.as_slice.ensures in
    let visible : c.visible_type-visible.result ≡ visible_type (out-Declared c.args.name.now).name c.args.context.now.environment =
    c.visible_type-visible.ensures.is ∙ ap (λ (text : List ℕ). visible_type text c.args.context.now.environment) c.as_slice-2.ensures in
    record {
      given = refl;
      ctype = c.seen_type.ensures ∙ ap (λ (number : Option ℕ). seen_in number c.args.given) visible;
      before = c.definition_by_now.ensures ∙ ap definition_by_now linked;
      adds = c.definition_by.ensures ∙ ap (definition_by c.args.storage) c.is_some.ensures;
    }

pub returns-clause-below : goal.returns-clause-below
returns-clause-below c = subst (DeclaredBelow (length c.args.context.now.types)) (sym c.seen_type.ensures)
    (seen_below (length c.args.context.now.types) c.visible_type-visible.result c.args.given c.visible_type-visible.ensures.below c.requires)
