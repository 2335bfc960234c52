-- One after the other, from behind.
use Rattle.std.proofs.Common.{refl, arith}
use Rattle.std.specs.List.{flat_map}
use Rattle.cbase.specs.declared.tree.expr.ExprForm.TheViews.{out-Part}
use Rattle.cbase.specs.declared.tree.expr.Part.{Part}
use Rattle.c_machine.specs.Statics.{in_step}
use Rattle.c_text.proofs.statics.InFront.{none_in_front, all_in_front, item_in_front}
use Rattle.c_text.proofs.statics.parts.expr.push_in_steps.Goals as goal

pub loop-left-init : goal.loop-left-init
loop-left-init c = record {
  inside = omega arith;
  pushed = none_in_front (flat_map (λ (step : Part). in_step (out-Part step))) c.args.path.now c.args.nodes.now refl;
}

pub loop-left-preserved : goal.loop-left-preserved
loop-left-preserved c = record {
  inside = grind (arith, c.loop-left.invariant.inside);
  pushed = item_in_front (λ (step : Part). in_step (out-Part step)) c.args.path.now c.loop-left.left c.index-path-left.result c.args.nodes.now c.loop-left.nodes c.push_in_step.new.nodes
      c.loop-left-test.true c.loop-left.invariant.inside c.index-path-left.is c.loop-left.invariant.pushed c.in_ok-push_in_step.ensures;
}

pub returns : goal.returns
returns c =
    all_in_front (flat_map (λ (step : Part). in_step (out-Part step))) c.args.path.now c.loop-left.left c.args.nodes.now c.loop-left.nodes
    c.loop-left-test.false c.loop-left.invariant.pushed
