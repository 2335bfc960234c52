-- A part is taken off, and what stands in it is put in its place.
use Rattle.std.proofs.Common.{arith}
use Rattle.c_text.proofs.statics.Walking.{one_taken, sets_taken}
use Rattle.c_text.proofs.statics.walk.walk.Goals as goal

pub loop-node-smaller : goal.loop-node-smaller
loop-node-smaller c =
    let taken = one_taken c.in-Some.node c.loop-node.nodes c.pop.new.self c.look_at.new.nodes c.in-Some.ensures.some c.in_ok-look_at.ensures.inner in
    omega (arith, taken)

pub loop-node-preserved : goal.loop-node-preserved
loop-node-preserved c =
    let taken = one_taken c.in-Some.node c.loop-node.nodes c.pop.new.self c.look_at.new.nodes c.in-Some.ensures.some c.in_ok-look_at.ensures.inner in
    record {
      sets = sets_taken c.in-Some.node c.loop-node.nodes c.pop.new.self c.look_at.new.nodes c.loop-node.sets c.look_at.new.sets _
          c.in-Some.ensures.some c.in_ok-look_at.ensures.inner c.in_ok-look_at.ensures.sets c.loop-node.invariant.sets;
      parts = omega (arith, taken, c.loop-node.invariant.parts, c.in_ok-count.ensures);
    }
