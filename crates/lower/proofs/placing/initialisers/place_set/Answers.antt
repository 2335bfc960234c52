-- What the value sets.
use Rattle.std.proofs.Common.{Some, sym, ap, ◌∙◌}
use Rattle.lower.specs.Around.{around_of}
use Rattle.lower.specs.Built.{made_of}
use Rattle.lowering.proofs.Onward.{on_ok}
use Rattle.lower.proofs.InitialisersLead.{set_fails, set_goes}
use Rattle.lower.proofs.placing.initialisers.place_set.Goals as goal

pub returns-in-Some-None : goal.returns-in-Some-None
returns-in-Some-None c =
    set_fails c.args.source.now (around_of c.args.around.now) c.args.levels c.args.from c.args.to c.args.place c.args.end c.args.value.now c.args.jobs.now c.args.jobs.now
    (made_of c.args.builder.now) (made_of c.fail.new.self) c.text.result.now c.text.ensures
    (λ n p stands. sym (c.in-Some-None.is ∙ ap Some c.in-Some-None.field-0-is) ∙ c.store.ensures n p stands) c.fail.ensures

pub returns-in-Some-Some : goal.returns-in-Some-Some
returns-in-Some-Some c = on_ok c.place_stored.result
    (set_goes c.args.source.now (around_of c.args.around.now) c.args.levels c.args.from c.args.to c.args.place c.args.end c.args.value.now c.args.jobs.now c.place_stored.new.jobs
    (made_of c.args.builder.now) (made_of c.place_stored.new.builder) c.text.result.now c.text.ensures c.in-Some-Some.stored
    (λ n p stands. sym (c.in-Some-Some.is ∙ ap Some c.in-Some-Some.field-0-is) ∙ c.store.ensures n p stands))
    c.place_stored.ensures
