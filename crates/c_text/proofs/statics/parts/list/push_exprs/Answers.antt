-- One after the other, from behind.
use Rattle.std.proofs.Common.{map, refl, arith}
use Rattle.c_machine.specs.Statics.{AnExpr}
use Rattle.c_text.proofs.statics.InFront.{none_in_front, all_in_front, part_in_front}
use Rattle.c_text.proofs.statics.parts.list.push_exprs.Goals as goal

pub loop-left-init : goal.loop-left-init
loop-left-init c = record { inside = omega arith; pushed = none_in_front (map AnExpr) c.args.exprs.now c.args.nodes.now refl }

pub loop-left-preserved : goal.loop-left-preserved
loop-left-preserved c = record {
  inside = grind (arith, c.loop-left.invariant.inside);
  pushed = part_in_front AnExpr c.args.exprs.now c.loop-left.left c.index-exprs-left.result c.args.nodes.now c.loop-left.nodes c.push_expr.new.nodes
      c.loop-left-test.true c.loop-left.invariant.inside c.index-exprs-left.is c.loop-left.invariant.pushed c.in_ok-push_expr.ensures;
}

pub returns : goal.returns
returns c = all_in_front (map AnExpr) c.args.exprs.now c.loop-left.left c.args.nodes.now c.loop-left.nodes c.loop-left-test.false c.loop-left.invariant.pushed
