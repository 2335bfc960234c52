-- What is broken at the name of an object, in the order in which it is asked.
use Rattle.std.proofs.Common.{Bool, List, ℕ, ◌||◌, subst}
use Rattle.std.specs.Prelude.{not}
use Rattle.cbase.specs.declared.tree.decl.Storage.TheVariants.{Extern}
use Rattle.cbase.specs.declared.tree.expr.ExprForm.TheViews.{out-Declared}
use Rattle.typing.specs.declared.ctypes.found.Broken.TheVariants.{Rule}
use Rattle.typing.specs.Declarations.{IsAgain, given}
use Rattle.typing.specs.Faults.{all_at, unless}
use Rattle.typing.specs.Forms.{DeclaratorParts}
use Rattle.expressions.specs.Numbers.{declared_type_at}
use Rattle.expressions.specs.Settled.{IsFirstOf}
use Rattle.items.specs.declarations.Given.{here_at, linked_now}
use Rattle.items.proofs.giving.object_fault.Goals as goal

pub returns : goal.returns
returns c = λ n agrees.
    let parts : DeclaratorParts = out-Declared c.args.name.now in
    let now = c.args.context.now in (
      c.is_again-other.result,
      subst (λ (text : List ℕ). IsAgain (here_at n now text) (linked_now n now text) (given Extern (declared_type_at n c.args.object.given)) c.is_again-other.result) c.as_slice.ensures (c.is_again-other.ensures n agrees),
      c.first_of-2.ensures (all_at parts.place c.args.found) _ c.all_at.ensures
          (c.first_of.ensures _ _
          (subst (λ (twice : Bool). IsFirstOf (unless (not (c.is_again-other.result || twice)) parts.place (Rule 2)) c.unless-once.result) c.is_twice-twice.ensures c.unless-once.ensures)
          (subst (λ (complete : Bool). IsFirstOf (unless complete parts.place (Rule 3)) c.unless-sized.result) (c.is_complete_by-complete.ensures n agrees) c.unless-sized.ensures)),
    )
