-- One after the other, from behind.
use Rattle.std.proofs.Common.{refl, arith}
use Rattle.std.specs.List.{flat_map}
use Rattle.c_machine.specs.Statics.{optional}
use Rattle.c_text.proofs.statics.InFront.{none_in_front, all_in_front, item_in_front}
use Rattle.c_text.proofs.statics.parts.list.push_sizes.Goals as goal

pub loop-left-init : goal.loop-left-init
loop-left-init c = record { inside = omega arith; pushed = none_in_front (flat_map optional) c.args.sizes.now c.args.nodes.now refl }

pub loop-left-preserved : goal.loop-left-preserved
loop-left-preserved c = record {
  inside = grind (arith, c.loop-left.invariant.inside);
  pushed = item_in_front optional c.args.sizes.now c.loop-left.left c.index-sizes-left.result c.args.nodes.now c.loop-left.nodes c.push_optional.new.nodes
      c.loop-left-test.true c.loop-left.invariant.inside c.index-sizes-left.is c.loop-left.invariant.pushed c.in_ok-push_optional.ensures;
}

pub returns : goal.returns
returns c =
    all_in_front (flat_map optional) c.args.sizes.now c.loop-left.left c.args.nodes.now c.loop-left.nodes
    c.loop-left-test.false c.loop-left.invariant.pushed
