-- One after the other, from behind.
use Rattle.std.proofs.Common.{◌≡◌, ℕ, ◌-◌, drop, subst, arith}
use Rattle.std.specs.List.{flat_map}
use Rattle.c_run.specs.declared.tasks.room.Room.{Room}
use Rattle.c_run.specs.declared.tasks.room.Room.TheVariants.{Made, NotKept}
use Rattle.c_run.specs.tasks.Room.{MakesRoom}
use Rattle.c_run.proofs.tasks.BlocksEntered.{object_tasks}
use Rattle.c_run.proofs.tasks.EachInFront.{item_in_front, lacks_item}
use Rattle.c_run.proofs.tasks.blocks.objects_of.Goals as goal

pub loop-left-preserved : goal.loop-left-preserved
loop-left-preserved c = (
  grind (arith, c.loop-left.invariant.0),
  λ n p stands.
      item_in_front (object_tasks p) c.args.names.now c.loop-left.left c.index-names-left.result Made c.args.state.now c.loop-left.state
      c.object_of.new.state c.loop-left-test.true c.loop-left.invariant.0 c.index-names-left.is (c.loop-left.invariant.1 n p stands)
      (subst (λ (room : Room). MakesRoom (object_tasks p c.index-names-left.result) room c.loop-left.state c.object_of.new.state) c.in-Made.is
      (c.in_ok-object_of.ensures n p stands)),
)

pub returns-in-NotKept : goal.returns-in-NotKept
returns-in-NotKept c = λ n p stands.
    lacks_item (object_tasks p) c.args.names.now (c.loop-left.left - 1)
    (item_in_front (object_tasks p) c.args.names.now c.loop-left.left c.index-names-left.result NotKept c.args.state.now c.loop-left.state
    c.object_of.new.state c.loop-left-test.true c.loop-left.invariant.0 c.index-names-left.is (c.loop-left.invariant.1 n p stands)
    (subst (λ (room : Room). MakesRoom (object_tasks p c.index-names-left.result) room c.loop-left.state c.object_of.new.state) c.in-NotKept.is
    (c.in_ok-object_of.ensures n p stands)))

pub returns : goal.returns
returns c = λ n p stands.
    let last : c.loop-left.left ≡ 0 = grind (arith, c.loop-left-test.false) in
    subst (λ (k : ℕ). MakesRoom (flat_map (object_tasks p) (drop k c.args.names.now)) Made c.args.state.now c.loop-left.state) last (c.loop-left.invariant.1 n p stands)
