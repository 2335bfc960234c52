-- The statements stand behind the objects.
use Rattle.std.proofs.Common.{[], ◌∷◌, map, ap, ◌∙◌}
use Rattle.c_machine.specs.declared.task.Task.TheVariants.{Execute, LeaveBlock, OpenBlock}
use Rattle.c_machine.specs.Blocks.{entered}
use Rattle.c_machine.specs.State.{doing}
use Rattle.c_machine.specs.Trees.{text_of}
use Rattle.c_run.proofs.tasks.BlocksEntered.{doing_behind, statements, statements_kept}
use Rattle.c_run.proofs.tasks.MakingRoom.{on_ok}
use Rattle.c_run.proofs.tasks.RoomBehind.{in_front}
use Rattle.c_run.proofs.tasks.blocks.in_block.Goals as goal

pub returns : goal.returns
returns c = on_ok _ _ c.open_block.result
    (λ room made. λ n p stands.
    in_front (OpenBlock ∷ entered (text_of p) c.args.body.now) (statements c.args.body.now c.args.close) room c.args.state.now c.do_statements.new.state
    c.open_block.new.state (
      c.in_ok-do_statements.ensures
          ∙ ap (doing (map Execute c.args.body.now)) c.in_ok-do_first.ensures.ok
          ∙ doing_behind (map Execute c.args.body.now) (LeaveBlock c.args.close ∷ []) c.args.state.now,
      statements_kept c.args.body.now c.args.close,
    )
    (made n p stands))
    c.open_block.ensures
