use Rattle.std.proofs.Common.{ℕ, ◌-◌, take, ap, ◌∙◌, arith}
use Rattle.cbase.specs.declared.ctype.CType.{CType}
use Rattle.cbase.specs.declared.ctype.CType.TheVariants.{Array as ArrayType}
use Rattle.typing.specs.NamedTypes.{with_sizes}
use Rattle.expressions.proofs.SettledBehind.{agrees_before_types}
use Rattle.expressions.proofs.SizedTypes.{only_types_twice, one_size}
use Rattle.expressions.proofs.walk.sizes.arrays_of.Goals as goal

pub loop-left-preserved : goal.loop-left-preserved
loop-left-preserved c =
    let before = c.loop-left.invariant in
    let numbered = c.in-Ok.ensures in
    let counted = c.items.ensures in
    record {
      inside = omega arith;
      only_types = only_types_twice c.args.context.now c.loop-left.context c.array_of.new.self before.only_types numbered.only_types;
      below = numbered.below;
      meant = λ n agrees.
          ap (λ (t : CType). with_sizes (take (c.loop-left.left - 1) c.args.sizes.now) t) (numbered.meant n agrees ∙ ap (λ (count : ℕ). ArrayType (n.ctype c.loop-left.number) count) counted)
          ∙ (one_size c.args.sizes.now c.loop-left.left _ (n.ctype c.loop-left.number) (omega arith) before.inside
          ∙ before.meant n (agrees_before_types n c.loop-left.context c.array_of.new.self numbered.only_types agrees));
    }
