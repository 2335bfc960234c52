use Rattle.std.proofs.Common.{◌≡◌, ◌<◌, length}
use Rattle.typing.specs.NamedTypes.{with_stars}
use Rattle.expressions.specs.Context.{Agrees, OnlyTypes}
use Rattle.expressions.specs.Numbers.{Numbering}
use Rattle.expressions.proofs.walk.sizes.pointers_to.Given as goal

abbrev pub invariant-loop-left : goal.invariant-loop-left
invariant-loop-left l = record {
  only_types : OnlyTypes l.fn.context l.context;
  below : l.number < length l.context.types;
  meant : (n : Numbering) → Agrees n l.context → with_stars l.left (n.ctype l.number) ≡ with_stars l.fn.stars (n.ctype l.fn.ctype);
}

abbrev pub decreases-loop-left : goal.decreases-loop-left
decreases-loop-left l = l.left
