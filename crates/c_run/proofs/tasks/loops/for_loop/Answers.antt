-- The objects of what comes first are made at the front of the block.
use Rattle.std.proofs.Common.{[], ◌∷◌, ◌++◌, ap, refl, subst, ◌∙◌}
use Rattle.cbase.specs.declared.tree.stmt.Stmt.{Stmt}
use Rattle.c_machine.specs.declared.task.Task.TheVariants.{Execute, LeaveBlock, OpenBlock, Test}
use Rattle.c_machine.specs.Blocks.{objects_in}
use Rattle.c_machine.specs.State.{doing}
use Rattle.c_machine.specs.Trees.{text_of}
use Rattle.c_run.specs.declared.tasks.room.Room.{Room}
use Rattle.c_run.specs.declared.tasks.room.Room.TheVariants.{Made, NotKept}
use Rattle.c_run.specs.tasks.Room.{MakesRoom}
use Rattle.c_run.proofs.tasks.MakingRoom.{Tasks, on_ok}
use Rattle.c_run.proofs.tasks.RoomBehind.{in_front}
use Rattle.c_run.proofs.tasks.loops.for_loop.Goals as goal

pub returns-in-Made : goal.returns-in-Made
returns-in-Made c = on_ok _ _ c.alone.result
    (λ room made. λ n p stands.
    let run : Tasks = Execute c.args.first.now ∷ Test c.args.stmt.now ∷ LeaveBlock c.args.stmt.now.place ∷ [] in
    in_front (OpenBlock ∷ []) (objects_in (text_of p) c.args.first.now ++ run) room c.args.state.now c.objects_in.new.state c.alone.new.state
    (in_front (objects_in (text_of p) c.args.first.now) run Made c.args.state.now c.do_statement.new.state c.objects_in.new.state (
      c.in_ok-do_statement.ensures
          ∙ ap (doing (Execute c.args.first.now ∷ []))
          (c.in_ok-do_first-2.ensures.ok ∙ ap (λ (stmt : Stmt). doing (Test stmt ∷ []) c.do_first.new.self) c.of.ensures ∙ ap (doing (Test c.args.stmt.now ∷ [])) c.in_ok-do_first.ensures.ok),
      refl,
    )
    (subst (λ (room : Room). MakesRoom (objects_in (text_of p) c.args.first.now) room c.do_statement.new.state c.objects_in.new.state) c.in-Made.is (c.in_ok-objects_in.ensures n p stands)))
    (made refl))
    c.alone.ensures

pub returns-in-NotKept : goal.returns-in-NotKept
returns-in-NotKept c = λ n p stands.
    let run : Tasks = Execute c.args.first.now ∷ Test c.args.stmt.now ∷ LeaveBlock c.args.stmt.now.place ∷ [] in
    in_front (OpenBlock ∷ objects_in (text_of p) c.args.first.now) run NotKept c.args.state.now c.do_statement.new.state c.objects_in.new.state (
      c.in_ok-do_statement.ensures
          ∙ ap (doing (Execute c.args.first.now ∷ []))
          (c.in_ok-do_first-2.ensures.ok ∙ ap (λ (stmt : Stmt). doing (Test stmt ∷ []) c.do_first.new.self) c.of.ensures ∙ ap (doing (Test c.args.stmt.now ∷ [])) c.in_ok-do_first.ensures.ok),
      refl,
    )
    (subst (λ (room : Room). MakesRoom (objects_in (text_of p) c.args.first.now) room c.do_statement.new.state c.objects_in.new.state) c.in-NotKept.is (c.in_ok-objects_in.ensures n p stands))
