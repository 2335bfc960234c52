use Rattle.std.proofs.Common.{◌-◌, ap, ◌∙◌, arith}
use Rattle.cbase.specs.declared.ctype.CType.{CType}
use Rattle.typing.specs.NamedTypes.{with_stars}
use Rattle.expressions.proofs.SettledBehind.{agrees_before_types}
use Rattle.expressions.proofs.SizedTypes.{only_types_twice, one_star}
use Rattle.expressions.proofs.walk.sizes.pointers_to.Goals as goal

pub loop-left-preserved : goal.loop-left-preserved
loop-left-preserved c =
    let before = c.loop-left.invariant in
    let numbered = c.in-Ok.ensures in
    record {
      only_types = only_types_twice c.args.context.now c.loop-left.context c.pointer_to.new.self before.only_types numbered.only_types;
      below = numbered.below;
      meant = λ n agrees.
          ap (λ (t : CType). with_stars (c.loop-left.left - 1) t) (numbered.meant n agrees)
          ∙ (one_star c.loop-left.left (n.ctype c.loop-left.number) (omega arith)
          ∙ before.meant n (agrees_before_types n c.loop-left.context c.pointer_to.new.self numbered.only_types agrees));
    }
