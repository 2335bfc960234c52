use Rattle.std.proofs.Common.{◌≡◌, ◌<◌, ◌≤◌, length, take}
use Rattle.typing.specs.NamedTypes.{with_sizes}
use Rattle.expressions.specs.Context.{Agrees, OnlyTypes}
use Rattle.expressions.specs.Numbers.{Numbering}
use Rattle.expressions.proofs.walk.sizes.arrays_of.Given as goal

abbrev pub invariant-loop-left : goal.invariant-loop-left
invariant-loop-left l = record {
  inside : l.left ≤ length l.sizes;
  only_types : OnlyTypes l.fn.context l.context;
  below : l.number < length l.context.types;
  meant : (n : Numbering) → Agrees n l.context → with_sizes (take l.left l.sizes) (n.ctype l.number) ≡ with_sizes l.sizes (n.ctype l.fn.ctype);
}

abbrev pub decreases-loop-left : goal.decreases-loop-left
decreases-loop-left l = l.left
