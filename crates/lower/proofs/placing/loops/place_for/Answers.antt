-- The points, the objects and the jobs of the `for`.
use Rattle.std.proofs.Common.{List, ap, ◌∙◌}
use Rattle.c_machine.specs.Trees.{text_of}
use Rattle.simulation.specs.Names.{Name}
use Rattle.lower.specs.Around.{around_of}
use Rattle.lower.specs.Built.{made_of}
use Rattle.lowering.specs.Placing.{after, enters}
use Rattle.lowering.proofs.Onward.{on_ok}
use Rattle.lower.proofs.ForLeads.{for_placed}
use Rattle.lower.proofs.placing.loops.place_for.Goals as goal

pub returns : goal.returns
returns c = on_ok c.for_jobs.result
    (λ leads. record {
      of = λ p reads.
          for_placed p (around_of c.args.around.now) c.args.levels c.args.from c.args.to c.args.jobs.now c.for_jobs.new.jobs c.args.stmt.now c.args.first.now c.args.body.now
          c.args.test c.args.next c.args.semicolon c.args.close (made_of c.args.builder.now) (made_of c.unless_declared.new.builder) (made_of c.named_of.new.builder)
          (made_of c.for_points.new.builder) c.in_ok-names.names c.in_ok-standing.standing c.in_ok-inside.inside c.in_ok-points.points c.is_at_head-at_head.result
          c.in_ok-standing.ensures (c.unless_declared.ensures p) (c.in_ok-names.ensures p reads).0 (c.in_ok-names.ensures p reads).1 (c.is_at_head-at_head.ensures p)
          (c.in_ok-inside.ensures p c.args.stmt.now.place
          ∙ ap (λ (names : List Name). after (text_of p) (enters names c.args.stmt.now.place) c.in_ok-standing.standing) c.as_slice.ensures) c.in_ok-points.ensures (leads p (made_of c.for_points.new.builder));
    })
    c.for_jobs.ensures
