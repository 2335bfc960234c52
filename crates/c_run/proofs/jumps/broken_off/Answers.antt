-- A `break` leaves the block of a `for`.
use Rattle.std.proofs.Common.{ap, ◌∙◌}
use Rattle.cbase.specs.declared.tree.stmt.Stmt.{Stmt}
use Rattle.c_machine.specs.Trees.{text_of}
use Rattle.c_run.specs.tasks.Loops.{is_for}
use Rattle.c_run.proofs.tasks.MakingRoom.{on_ok}
use Rattle.c_run.proofs.Leaving.{breaks_off}
use Rattle.c_run.proofs.jumps.broken_off.Goals as goal

pub returns : goal.returns
returns c = on_ok _ _ c.break_at.result
    (λ outcome comes. λ p choices. comes choices
    ∙ breaks_off (text_of p) c.args.word c.in-Some.left.blocks c.in-Some.left.held c.in-Some.left.stmt _ c.args.state.now c.leave_to_loop.new.self choices
    (c.is_for-has_block.ensures p ∙ ap (λ (stmt : Stmt). is_for ((text_of p).clause stmt)) c.get.ensures) c.in-Some.ensures.some c.leave_to_loop.ensures.rest)
    c.break_at.ensures
