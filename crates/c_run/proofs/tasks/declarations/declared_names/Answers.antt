-- One name after the other, from behind.
use Rattle.std.proofs.Common.{◌≡◌, ℕ, ◌-◌, drop, subst, arith}
use Rattle.c_machine.specs.Blocks.{declared_tasks}
use Rattle.c_machine.specs.Trees.{name_of, text_of}
use Rattle.c_run.specs.declared.tasks.room.Room.{Room}
use Rattle.c_run.specs.declared.tasks.room.Room.TheVariants.{Made, NotKept}
use Rattle.c_run.specs.tasks.Room.{MakesRoom}
use Rattle.c_run.proofs.tasks.EachName.{lacks_name, name_before, names_tasks}
use Rattle.c_run.proofs.tasks.declarations.declared_names.Goals as goal

pub loop-left-preserved : goal.loop-left-preserved
loop-left-preserved c = record {
  inside = omega arith;
  made = λ n p stands.
      name_before p c.args.names.now c.loop-left.left c.index-names-left.result Made c.args.state.now c.loop-left.state c.declared_tasks.new.state
      c.loop-left-test.true c.loop-left.invariant.inside c.index-names-left.is
      (subst (λ (room : Room). MakesRoom (declared_tasks (text_of p) (name_of c.index-names-left.result)) room c.loop-left.state c.declared_tasks.new.state) c.in-Made.is (c.in_ok-declared_tasks.ensures n p stands))
      (c.loop-left.invariant.made n p stands);
}

pub returns-in-NotKept : goal.returns-in-NotKept
returns-in-NotKept c = λ n p stands.
    lacks_name p c.args.names.now (c.loop-left.left - 1)
    (name_before p c.args.names.now c.loop-left.left c.index-names-left.result NotKept c.args.state.now c.loop-left.state c.declared_tasks.new.state
    c.loop-left-test.true c.loop-left.invariant.inside c.index-names-left.is
    (subst (λ (room : Room). MakesRoom (declared_tasks (text_of p) (name_of c.index-names-left.result)) room c.loop-left.state c.declared_tasks.new.state) c.in-NotKept.is (c.in_ok-declared_tasks.ensures n p stands))
    (c.loop-left.invariant.made n p stands))

pub returns : goal.returns
returns c = λ n p stands.
    let last : c.loop-left.left ≡ 0 = omega arith in
    subst (λ (k : ℕ). MakesRoom (names_tasks p (drop k c.args.names.now)) Made c.args.state.now c.loop-left.state) last (c.loop-left.invariant.made n p stands)
