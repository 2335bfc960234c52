-- The variable, and what the value lets go of, are those of the definition.
use Rattle.std.proofs.Common.{ℕ, ◌+◌, Option, ap, ◌∙◌}
use Rattle.c_machine.specs.Text.{Store}
use Rattle.c_machine.specs.Trees.{text_of}
use Rattle.lower.specs.Around.{around_of}
use Rattle.lower.specs.Built.{made_of}
use Rattle.lowering.specs.Placing.{along, go, set_moves, variable_of, with_registers}
use Rattle.lowering.proofs.Onward.{on_ok}
use Rattle.lower.proofs.PiecesPlaced.{leads_as}
use Rattle.lower.proofs.placing.initialisers.place_stored.Goals as goal

pub returns : goal.returns
returns c = on_ok c.stored_with.result
    (λ is. λ p reads.
    let stored : Store = record { offset = c.args.bytes; kind = c.args.kind.now } in
    leads_as p (around_of c.args.around.now) c.args.jobs.now c.stored_with.new.jobs _ _ (made_of c.stored_with.new.builder)
    (ap (λ (found : Option ℕ). along (text_of p) (around_of c.args.around.now) (go c.args.levels (text_of p) (around_of c.args.around.now))
    (with_registers (c.in_ok-count.count + 3) (made_of c.args.builder.now)) c.args.from
    (set_moves (text_of p) found c.args.place c.args.value.now c.args.end stored c.args.builder.now.registers c.in_ok-count.count) c.args.to)
    (c.variable-found.ensures.of p reads)
    ∙ ap (λ (count : ℕ). along (text_of p) (around_of c.args.around.now) (go c.args.levels (text_of p) (around_of c.args.around.now))
    (with_registers (count + 3) (made_of c.args.builder.now)) c.args.from
    (set_moves (text_of p) (variable_of (around_of c.args.around.now) ((text_of p).token c.args.place)) c.args.place c.args.value.now c.args.end stored
    c.args.builder.now.registers count) c.args.to)
    (c.in_ok-count.ensures.of p reads))
    (is p (around_of c.args.around.now)))
    c.stored_with.ensures
