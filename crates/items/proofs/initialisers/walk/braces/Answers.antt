-- What the braces fill, or too many of them.
use Rattle.items.proofs.initialisers.Filling.{braces_fill, braces_too_many}
use Rattle.items.proofs.initialisers.walk.braces.Goals as goal

pub returns-in-Some : goal.returns-in-Some
returns-in-Some g c = λ init is. braces_fill c.args.checker.now.abi c.args.subject c.args.slot init c.args.parts.now c.args.context.now _ is c.in_ok-filled.field-0 c.in_ok-filled.ensures c.in-Some.filled c.fill.result c.in-Some.is c.fill.ensures

pub returns-in-None : goal.returns-in-None
returns-in-None g c = λ init is. braces_too_many c.args.checker.now.abi c.args.subject c.args.slot init c.args.parts.now c.args.context.now _ is c.in_ok-filled.field-0 c.in_ok-filled.ensures c.surplus.result c.in-None.is c.surplus.ensures
