-- One argument after the other, from behind.
use Rattle.std.proofs.Common.{◌-◌, [], ◌∷◌, subst, arith}
use Rattle.c_machine.specs.declared.task.Task.TheVariants.{Convert, ValueOf}
use Rattle.c_machine.specs.Expressions.{value_kind}
use Rattle.c_machine.specs.Trees.{kind_in, text_of}
use Rattle.c_run.specs.declared.tasks.room.Room.{Room}
use Rattle.c_run.specs.declared.tasks.room.Room.TheVariants.{Made, NotKept}
use Rattle.c_run.specs.tasks.Room.{MakesRoom}
use Rattle.c_run.proofs.tasks.EachArgument.{argument_before, argument_lacks}
use Rattle.c_text.specs.Parameters.{types_by}
use Rattle.c_run.proofs.tasks.arguments.converted.Goals as goal

pub loop-left-preserved : goal.loop-left-preserved
loop-left-preserved c = record {
  inside = omega arith;
  made = λ n p stands few.
      argument_before p c.args.args.now (types_by n p c.args.params) c.loop-left.left c.index-args-left.result Made c.args.state.now c.loop-left.state c.argument.new.state
      c.loop-left-test.true c.loop-left.invariant.inside few c.index-args-left.is
      (λ param there. subst (λ (room : Room). MakesRoom (ValueOf c.index-args-left.result ∷ Convert (value_kind (text_of p) c.index-args-left.result) (kind_in p param) ∷ []) room c.loop-left.state c.argument.new.state)
      c.in-Made.is (c.in_ok-argument.ensures n p param stands there))
      (c.loop-left.invariant.made n p stands few);
}

pub returns-in-NotKept : goal.returns-in-NotKept
returns-in-NotKept c = λ n p stands few.
    argument_lacks p c.args.args.now (types_by n p c.args.params) (c.loop-left.left - 1) few
    (argument_before p c.args.args.now (types_by n p c.args.params) c.loop-left.left c.index-args-left.result NotKept c.args.state.now c.loop-left.state c.argument.new.state
    c.loop-left-test.true c.loop-left.invariant.inside few c.index-args-left.is
    (λ param there. subst (λ (room : Room). MakesRoom (ValueOf c.index-args-left.result ∷ Convert (value_kind (text_of p) c.index-args-left.result) (kind_in p param) ∷ []) room c.loop-left.state c.argument.new.state)
    c.in-NotKept.is (c.in_ok-argument.ensures n p param stands there))
    (c.loop-left.invariant.made n p stands few))
