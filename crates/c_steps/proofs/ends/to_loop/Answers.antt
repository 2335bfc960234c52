-- At first no block is passed, and each block that is passed counts.
use Rattle.std.proofs.Common.{◌∙◌, length, ap, arith}
use Rattle.c_machine.specs.Statements.{loop_left}
use Rattle.c_steps.specs.Ends.{further_on}
use Rattle.c_steps.proofs.Passing.{no_block_further, one_block_further}
use Rattle.c_steps.proofs.ends.to_loop.Goals as goal

pub loop-task-init : goal.loop-task-init
loop-task-init g c = record {
  count = omega (arith, c.len-most.ensures);
  left = no_block_further (loop_left c.args.tasks.now);
}

pub loop-task-preserved-in-Block : goal.loop-task-preserved-in-Block
loop-task-preserved-in-Block g c = record {
  count = omega (arith, c.loop-task.invariant.count, ap length c.in-Some.ensures.some);
  left = c.loop-task.invariant.left
      ∙ (ap (further_on c.loop-task.blocks) (ap loop_left c.in-Some.ensures.some ∙ c.in-Block.ensures c.pop.new.self)
      ∙ one_block_further c.loop-task.blocks (loop_left c.pop.new.self));
}

pub loop-task-preserved : goal.loop-task-preserved
loop-task-preserved g c = record {
  count = omega (arith, c.loop-task.invariant.count, ap length c.in-Some.ensures.some);
  left = c.loop-task.invariant.left ∙ ap (further_on c.loop-task.blocks) (ap loop_left c.in-Some.ensures.some ∙ c.in-Other.ensures c.pop.new.self);
}
