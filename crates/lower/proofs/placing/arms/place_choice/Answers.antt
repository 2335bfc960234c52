-- Both arms have the moves of the definition.
use Rattle.std.proofs.Common.{ap, ◌∙◌, max}
use Rattle.lower.specs.Built.{made_of}
use Rattle.lower.proofs.ArmsLead.{choice_leads}
use Rattle.lower.proofs.JobsLead.{then_ok}
use Rattle.lowering.specs.Placing.{with_spares}
use Rattle.lower.proofs.placing.arms.place_choice.Goals as goal

pub returns : goal.returns
returns c = then_ok _ _ c.place_arms.result
    (λ is. λ p around.
    choice_leads p around c.args.levels c.args.from c.args.expr.now c.args.test.now c.args.one.now c.args.other.now c.args.kind.now c.args.spare c.args.into c.args.tested c.args.left_one
    c.args.left_other c.args.to c.args.jobs.now _ (made_of c.args.builder.now) _ _ _ _ _ _ _ _ _
    (c.in_ok-with_spares.ensures ∙ ap (with_spares c.args.spare c.args.tested) c.in_ok-standing.ensures)
    c.max-2.ensures c.max-3.ensures (c.max-want.ensures ∙ ap (max c.args.tested) c.max.ensures) c.new-first.ensures c.new-second.ensures c.in_ok-arm_moves.ensures c.in_ok-arm_moves-2.ensures (is p around))
    c.place_arms.ensures
