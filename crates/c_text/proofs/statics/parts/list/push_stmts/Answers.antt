-- One after the other, from behind.
use Rattle.std.proofs.Common.{map, refl, arith}
use Rattle.c_machine.specs.Statics.{AStmt}
use Rattle.c_text.proofs.statics.InFront.{none_in_front, all_in_front, part_in_front}
use Rattle.c_text.proofs.statics.parts.list.push_stmts.Goals as goal

pub loop-left-init : goal.loop-left-init
loop-left-init c = record { inside = omega arith; pushed = none_in_front (map AStmt) c.args.stmts.now c.args.nodes.now refl }

pub loop-left-preserved : goal.loop-left-preserved
loop-left-preserved c = record {
  inside = grind (arith, c.loop-left.invariant.inside);
  pushed = part_in_front AStmt c.args.stmts.now c.loop-left.left c.index-stmts-left.result c.args.nodes.now c.loop-left.nodes c.push_stmt.new.nodes
      c.loop-left-test.true c.loop-left.invariant.inside c.index-stmts-left.is c.loop-left.invariant.pushed c.in_ok-push_stmt.ensures;
}

pub returns : goal.returns
returns c = all_in_front (map AStmt) c.args.stmts.now c.loop-left.left c.args.nodes.now c.loop-left.nodes c.loop-left-test.false c.loop-left.invariant.pushed
