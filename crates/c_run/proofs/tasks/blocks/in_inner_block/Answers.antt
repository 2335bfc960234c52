-- The statements stand behind the objects.
use Rattle.std.proofs.Common.{[], ◌∷◌, ◌++◌, ap, ◌∙◌}
use Rattle.c_machine.specs.declared.task.Task.TheVariants.{LeaveBlock, OpenBlock}
use Rattle.c_machine.specs.Blocks.{entered, valued}
use Rattle.c_machine.specs.State.{doing}
use Rattle.c_machine.specs.Trees.{text_of}
use Rattle.c_run.proofs.tasks.BlocksEntered.{doing_behind, valued_kept}
use Rattle.c_run.proofs.tasks.MakingRoom.{on_ok}
use Rattle.c_run.proofs.tasks.RoomBehind.{in_front}
use Rattle.c_run.proofs.tasks.blocks.in_inner_block.Goals as goal

pub returns : goal.returns
returns c = on_ok _ _ c.open_block.result
    (λ room made. λ n p stands.
    in_front (OpenBlock ∷ entered (text_of p) c.args.body.now) (valued (text_of p) c.args.body.now ++ LeaveBlock c.args.close ∷ []) room c.args.state.now
    c.do_valued.new.state c.open_block.new.state (
      c.in_ok-do_valued.ensures p
          ∙ ap (doing (valued (text_of p) c.args.body.now)) c.in_ok-do_first.ensures.ok
          ∙ doing_behind (valued (text_of p) c.args.body.now) (LeaveBlock c.args.close ∷ []) c.args.state.now,
      valued_kept p c.args.body.now c.args.close,
    )
    (made n p stands))
    c.open_block.ensures
