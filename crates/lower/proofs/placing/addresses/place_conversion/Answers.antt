-- The kind is that of the expression's value.
use Rattle.lower.specs.Built.{made_of}
use Rattle.lowering.proofs.Onward.{on_ok}
use Rattle.lower.proofs.InitialisersLead.{conversion_leads}
use Rattle.lower.proofs.placing.addresses.place_conversion.Goals as goal

pub returns : goal.returns
returns c = on_ok c.push.result
    (conversion_leads c.args.source.now c.args.levels c.args.from c.args.to c.args.jobs.now c.push.new.self (made_of c.args.builder.now) c.args.expr.now c.args.kind
    c.in_ok-own.own c.conversion.result c.args.spare c.args.into c.converted_line.new.registers c.new-moves.result c.converted_line.new.line c.in_ok-own.ensures c.conversion.ensures
    c.new-moves.ensures c.in_ok-converted_line.ensures)
    c.push.ensures.ok
