-- What stands is finished, and then the function is left.
use Rattle.std.proofs.Common.{ℕ, List, ◌++◌, map, ◌∙◌, ap}
use Rattle.flow.specs.declared.flow_graph.Width.{Width}
use Rattle.lower.specs.Around.{around_of}
use Rattle.lower.specs.Built.{made_of}
use Rattle.lower.proofs.JobsLead.{then_ok}
use Rattle.lower.proofs.ReturnsLead.{alone_leads}
use Rattle.lowering.specs.Placing.{registers_of}
use Rattle.lower.proofs.placing.returns.place_return_alone.Goals as goal

pub returns : goal.returns
returns c = then_ok _ _ c.push.result
    (λ is. λ p.
    alone_leads p (around_of c.args.around.now) c.args.levels c.args.from c.args.word c.args.jobs.now _ (made_of c.args.builder.now) _ _ _ _
    (c.in_ok-push_registers.ensures ∙ ap (λ (front : List ℕ). front ++ map (λ (one : Width). one.register) c.as_slice.result.now) c.new-registers.ensures
    ∙ ap (λ (stands : List Width). map (λ (one : Width). one.register) stands) c.as_slice.ensures ∙ ap registers_of c.in_ok-standing.ensures)
    c.new-moves.ensures c.in_ok-function_leaves.ensures c.in_ok-finishes.ensures is)
    c.push.ensures.ok
