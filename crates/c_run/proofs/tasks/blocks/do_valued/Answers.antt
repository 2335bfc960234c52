-- The last statement that counts stands behind the others.
use Rattle.std.proofs.Common.{◌+◌, map, take, drop, sym, ap, ◌∙◌}
use Rattle.c_machine.specs.declared.task.Task.TheVariants.{Execute}
use Rattle.c_machine.specs.Blocks.{are_empty, last_tasks}
use Rattle.c_machine.specs.State.{doing}
use Rattle.c_machine.specs.Trees.{text_of}
use Rattle.c_run.proofs.tasks.BlocksEntered.{doing_behind, valued_at}
use Rattle.c_run.proofs.tasks.EachInFront.{item_at}
use Rattle.c_run.proofs.tasks.MakingRoom.{Tasks}
use Rattle.c_text.proofs.Following.{then_ok}
use Rattle.c_run.proofs.tasks.blocks.do_valued.Goals as goal

pub returns : goal.returns
returns c =
    let here = item_at c.args.body.now c.in-Some.front c.index-body-front.result c.in-Some.ensures.inside c.index-body-front.is in
    then_ok _ _ c.do_statements.result
    (λ done. λ p.
    done
    ∙ ap (doing (map Execute (take c.in-Some.front c.args.body.now))) (c.in_ok-do_last.ensures p)
    ∙ doing_behind (map Execute (take c.in-Some.front c.args.body.now))
    (last_tasks (text_of p) c.index-body-front.result ((text_of p).clause c.index-body-front.result)) c.args.state.now
    ∙ ap (λ (tasks : Tasks). doing tasks c.args.state.now)
    (sym (valued_at p c.args.body.now c.in-Some.front c.index-body-front.result (drop (c.in-Some.front + 1) c.args.body.now) here
    (c.in-Some.ensures.empty p)
    (λ some. ap (are_empty (text_of p)) (sym here) ∙ c.in-Some.ensures.full p some))))
    c.do_statements.ensures
