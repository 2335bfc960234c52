-- What comes first, a turn, what is done behind it, and the end of the block.
use Rattle.std.proofs.Common.{List, ◌∷◌, ap, ◌∙◌}
use Rattle.flow.specs.declared.instruction.Instr.TheVariants as i
use Rattle.simulation.specs.Names.{variables_of}
use Rattle.lower.specs.Around.{around_of}
use Rattle.lower.specs.Jobs.{JobOf}
use Rattle.lower.specs.declared.jobs.Job.TheVariants.{Edge}
use Rattle.lowering.proofs.Onward.{on_ok}
use Rattle.lower.proofs.LoopsLead.{for_leads}
use Rattle.lower.proofs.placing.loops.for_jobs.Goals as goal

pub returns : goal.returns
returns c = on_ok c.first_job.result
    (λ is_new. λ p made.
    for_leads p (around_of c.args.around.now) c.args.levels c.args.from c.args.to c.args.jobs.now c.first_job.new.jobs made c.args.names c.in_ok-variables.variables c.args.word
    c.args.semicolon c.args.close c.args.first.now c.args.body.now c.args.test c.args.next c.args.points.head c.args.points.again c.args.points.out c.args.standing
    c.in_ok-turning.turning c.in_ok-outside.outside c.push-2.new.self c.next_job.new.jobs c.turn_job.new.jobs
    (c.in_ok-variables.ensures ∙ ap variables_of c.as_slice.ensures)
    (c.in_ok-push-2.ensures.ok ∙ ap (λ (jobs : List JobOf). Edge c.args.points.out (i.Leave c.in_ok-variables.variables) c.args.to c.args.word ∷ jobs) c.in_ok-push.ensures.ok)
    (c.in_ok-next_job.ensures p) (c.in_ok-turning.ensures c.args.names) (c.in_ok-turn_job.ensures p) c.in_ok-outside.ensures is_new)
    c.first_job.ensures
