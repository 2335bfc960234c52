-- One after the other, from behind.
use Rattle.std.proofs.Common.{refl, arith}
use Rattle.std.specs.List.{flat_map}
use Rattle.c_machine.specs.Statics.{in_param}
use Rattle.c_text.proofs.statics.InFront.{none_in_front, all_in_front, item_in_front}
use Rattle.c_text.proofs.statics.parts.name.push_in_each_param.Goals as goal

pub loop-left-init : goal.loop-left-init
loop-left-init c = record { inside = omega arith; pushed = none_in_front (flat_map in_param) c.args.params.now c.args.nodes.now refl }

pub loop-left-preserved : goal.loop-left-preserved
loop-left-preserved c = record {
  inside = grind (arith, c.loop-left.invariant.inside);
  pushed = item_in_front in_param c.args.params.now c.loop-left.left c.index-params-left.result c.args.nodes.now c.loop-left.nodes c.push_in_param.new.nodes
      c.loop-left-test.true c.loop-left.invariant.inside c.index-params-left.is c.loop-left.invariant.pushed c.in_ok-push_in_param.ensures;
}

pub returns : goal.returns
returns c =
    all_in_front (flat_map in_param) c.args.params.now c.loop-left.left c.args.nodes.now c.loop-left.nodes
    c.loop-left-test.false c.loop-left.invariant.pushed
