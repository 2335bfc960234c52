-- An object behind its initialiser, or what is refused in that.
use Rattle.items.proofs.declarations.BehindNames.{object_passes, object_refused}
use Rattle.items.proofs.declarations.initialising.object_initialised.Goals as goal

pub returns-in_ok-hand_object-in-Passes : goal.returns-in_ok-hand_object-in-Passes
returns-in_ok-hand_object-in-Passes g c = object_passes c.args.checker.now.abi c.args.name.now c.args.fixed c.args.init.now c.args.context.now c.ask_initialiser.new.context c.hand_object.new.context c.args.ctype
    c.in_braces.result c.in-Passes.field-0 c.in_ok-ask_initialiser.field-0 c.in-Passes.is c.in_braces.ensures c.in_ok-ask_initialiser.ensures c.in_ok-hand_object-in-Passes.ensures

pub returns-in-Refused : goal.returns-in-Refused
returns-in-Refused g c = object_refused c.args.checker.now.abi c.args.name.now c.args.fixed c.args.init.now c.args.context.now c.ask_initialiser.new.context c.args.ctype
    c.in-Refused.fault c.in_ok-ask_initialiser.field-0 c.in-Refused.is c.in_ok-ask_initialiser.ensures
