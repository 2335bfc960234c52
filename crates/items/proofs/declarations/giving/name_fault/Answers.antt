-- What is broken at a name, in the order in which it is asked.
use Rattle.std.proofs.Common.{Bool, ap, ◌∙◌, subst}
use Rattle.cbase.specs.declared.tree.expr.ExprForm.TheViews.{out-Declared}
use Rattle.typing.specs.declared.ctypes.found.Broken.TheVariants.{Rule}
use Rattle.typing.specs.Declarations.{IsAgain, given, is_complete}
use Rattle.typing.specs.Faults.{unless, all_at}
use Rattle.typing.specs.Forms.{DeclaratorParts}
use Rattle.expressions.specs.Numbers.{declared_type_at}
use Rattle.expressions.specs.Settled.{IsFirstOf}
use Rattle.items.specs.declarations.Given.{here_at, linked_now}
use Rattle.std.proofs.Common.{List, ℕ}
use Rattle.items.proofs.declarations.giving.name_fault.Goals as goal

pub returns : goal.returns
returns c = λ n agrees.
    let parts : DeclaratorParts = out-Declared c.args.name.now in
    let now = c.args.context.now in
    let gives = given c.args.storage (declared_type_at n c.args.ctype) in
    record {
      again = c.is_again-again.result;
      is_again = subst (λ (text : List ℕ). IsAgain (here_at n now text) (linked_now n now text) gives c.is_again-again.result) c.as_slice.ensures (c.is_again-again.ensures n agrees);
      is_first = c.first_of-2.ensures (all_at parts.place c.args.found) _ c.all_at.ensures
          (c.first_of.ensures _ _ c.unless-twice.ensures
          (subst (λ (complete : Bool). IsFirstOf (unless complete parts.place (Rule 3)) c.unless-sized.result)
          (c.is_complete-complete.ensures n agrees ∙ ap (λ (initialised : Bool). is_complete now.structs initialised gives) c.is_some.ensures) c.unless-sized.ensures));
    }
