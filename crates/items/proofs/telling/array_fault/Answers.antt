-- What is broken at the name of an array whose size its initialiser tells.
use Rattle.std.proofs.Common.{◌≡◌, ◌∙◌, List, ℕ, Option, ap, subst}
use Rattle.std.specs.Prelude.{option_and_then}
use Rattle.cbase.specs.declared.ctype.CType.{CType}
use Rattle.cbase.specs.declared.tree.expr.ExprForm.TheViews.{out-Declared}
use Rattle.typing.specs.declared.environment.entity.Linked.{Linked as LinkedByNumber}
use Rattle.typing.specs.environment.Names.{value_in}
use Rattle.typing.specs.Declarations.{IsOther}
use Rattle.typing.specs.Entities.{ObjectLinked, WholeType}
use Rattle.expressions.specs.Numbers.{linked_at}
use Rattle.items.proofs.telling.array_fault.Goals as goal

pub returns : goal.returns
returns c = λ abi n item agrees meant.
    let linked : c.linked.result ≡ value_in (out-Declared c.args.name.now).name c.args.context.now.environment.linked =
    c.linked.ensures.is ∙ ap (λ (text : List ℕ). value_in text c.args.context.now.environment.linked) c.as_slice.ensures in (
      c.is_other-other.result,
      subst (λ (t : CType). IsOther (option_and_then (linked_at n) (value_in (out-Declared c.args.name.now).name c.args.context.now.environment.linked)) (ObjectLinked (WholeType t)) c.is_other-other.result) meant
          (subst (λ (l : Option LinkedByNumber). IsOther (option_and_then (linked_at n) l) (ObjectLinked (WholeType (n.ctype c.args.ctype))) c.is_other-other.result) linked (c.is_other-other.ensures n agrees)),
      c.first_of.ensures _ _ (c.told_fault.ensures n abi item agrees meant) c.unless-once.ensures,
    )
