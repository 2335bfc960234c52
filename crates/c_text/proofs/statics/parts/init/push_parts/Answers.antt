-- One after the other, from behind.
use Rattle.std.proofs.Common.{◌-◌, map, get_or, refl, ap, arith}
use Rattle.cbase.specs.declared.tree.expr.ExprForm.TheViews.{out-InitPart}
use Rattle.cbase.specs.declared.tree.init.InitPart.{InitPart}
use Rattle.c_machine.specs.Statics.{AnInit}
use Rattle.c_text.proofs.statics.InFront.{none_in_front, all_in_front, part_in_front}
use Rattle.c_text.proofs.statics.parts.init.push_parts.Goals as goal

pub loop-left-init : goal.loop-left-init
loop-left-init c = record {
  inside = omega arith;
  pushed = none_in_front (map (λ (part : InitPart). AnInit (out-InitPart part).init)) c.args.parts.now c.args.nodes.now refl;
}

pub loop-left-preserved : goal.loop-left-preserved
loop-left-preserved c = record {
  inside = grind (arith, c.loop-left.invariant.inside);
  pushed = part_in_front (λ (part : InitPart). AnInit (out-InitPart part).init) c.args.parts.now c.loop-left.left _ c.args.nodes.now c.loop-left.nodes c.push_init.new.nodes
      c.loop-left-test.true c.loop-left.invariant.inside (ap (get_or c.args.parts.now (c.loop-left.left - 1)) c.index-parts-left.is)
      c.loop-left.invariant.pushed c.in_ok-push_init.ensures;
}

pub returns : goal.returns
returns c =
    all_in_front (map (λ (part : InitPart). AnInit (out-InitPart part).init)) c.args.parts.now c.loop-left.left c.args.nodes.now c.loop-left.nodes
    c.loop-left-test.false c.loop-left.invariant.pushed
