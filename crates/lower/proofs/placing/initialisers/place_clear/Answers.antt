-- The variable is that of the definition.
use Rattle.std.proofs.Common.{ℕ, Option, ap}
use Rattle.c_machine.specs.Trees.{text_of}
use Rattle.lower.specs.Around.{around_of}
use Rattle.lower.specs.Built.{made_of}
use Rattle.lowering.specs.Placing.{along, clear_moves, go, with_registers}
use Rattle.lowering.proofs.Onward.{on_ok}
use Rattle.lower.proofs.PiecesPlaced.{leads_as}
use Rattle.lower.proofs.placing.initialisers.place_clear.Goals as goal

pub returns : goal.returns
returns c = on_ok c.clear_of.result
    (λ is. record {
      of = λ p reads.
          leads_as p (around_of c.args.around.now) c.args.jobs.now c.clear_of.new.jobs _ _ (made_of c.clear_of.new.builder)
          (ap (λ (found : Option ℕ). along (text_of p) (around_of c.args.around.now) (go c.args.levels (text_of p) (around_of c.args.around.now))
          (with_registers 2 (made_of c.args.builder.now)) c.args.from (clear_moves found c.args.place c.args.object.bytes c.args.builder.now.registers) c.args.to)
          (c.variable-found.ensures.of p reads))
          (is p (around_of c.args.around.now));
    })
    c.clear_of.ensures
