-- The block is entered, its moves are followed, and it is left.
use Rattle.std.proofs.Common.{ℕ, List, ◌∷◌, ap, ◌∙◌}
use Rattle.simulation.specs.Names.{Name}
use Rattle.lower.specs.Built.{made_of}
use Rattle.lowering.proofs.Onward.{on_ok}
use Rattle.lowering.specs.Placing.{enters, leaves}
use Rattle.lower.proofs.InnerLeads.{inner_leads}
use Rattle.lower.proofs.placing.inner.place_inner.Goals as goal

pub returns : goal.returns
returns c = on_ok c.in_scope.result
    (λ is. record {
      of = λ p around reads.
          inner_leads p around c.args.levels c.args.from c.args.expr.now c.args.body.now c.args.close c.args.into c.args.to c.args.jobs.now _ (made_of c.args.builder.now)
          (made_of c.registers.new.self) _ _ _ _ _ _ _ _ (c.in_ok-count.ensures.of p reads) c.in_ok-spare.ensures.is.0 c.in_ok-spare.ensures.is.1
          (c.in_ok-names.ensures p reads) c.new-moves.ensures
          (c.in_ok-leaves.ensures ∙ ap (λ (names : List Name). leaves names c.args.close ∷ c.new-moves.result) c.as_slice.ensures)
          (c.in_ok-valued_moves.ensures.of p reads)
          (c.in_ok-enters.ensures ∙ ap (λ (names : List Name). enters names c.args.expr.now.place ∷ c.valued_moves.new.line) c.as_slice-2.ensures) is;
    })
    c.in_scope.ensures
