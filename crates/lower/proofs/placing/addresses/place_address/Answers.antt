-- The form is that of the expression, and the variable is that of the definition.
use Rattle.lower.specs.Around.{around_of}
use Rattle.lower.specs.Built.{made_of}
use Rattle.lowering.specs.Reading.{form_in}
use Rattle.lowering.proofs.Onward.{on_ok}
use Rattle.lower.proofs.InitialisersLead.{address_leads}
use Rattle.lower.proofs.placing.addresses.place_address.Goals as goal

pub returns : goal.returns
returns c = on_ok c.push.result
    (address_leads c.args.source.now c.args.levels c.args.from c.args.to c.args.jobs.now c.push.new.self (around_of c.args.around.now) (made_of c.args.builder.now) c.args.expr.now
    c.args.spare c.args.into (form_in c.read_form.result) c.named_variable-found.result c.place_line.new.registers c.new-moves.result c.place_line.new.line c.read_form.ensures
    c.named_variable-found.ensures c.new-moves.ensures c.in_ok-place_line.ensures)
    c.push.ensures.ok
