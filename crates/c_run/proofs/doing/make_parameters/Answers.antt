-- One object in front of the others.
use Rattle.std.proofs.Common.{◌-◌, arith}
use Rattle.c_machine.specs.declared.task.Task.TheVariants.{MakeParameter}
use Rattle.c_run.proofs.tasks.EachInFront.{item_done}
use Rattle.c_run.proofs.Rooms.{get_or_twice}
use Rattle.c_run.proofs.doing.make_parameters.Goals as goal

pub loop-left-preserved : goal.loop-left-preserved
loop-left-preserved c = record {
  inside = grind (arith, c.loop-left.invariant.inside);
  pushed =
      item_done MakeParameter c.args.objects.now c.loop-left.left _ c.args.state.now c.loop-left.state c.do_first.new.self c.loop-left-test.true c.loop-left.invariant.inside
      (get_or_twice c.args.objects.now (c.loop-left.left - 1) _) c.loop-left.invariant.pushed c.in_ok-do_first.ensures.ok;
}
