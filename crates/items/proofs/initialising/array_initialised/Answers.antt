-- An array whose size its initialiser tells.
use Rattle.std.proofs.Common.{refl}
use Rattle.items.proofs.declarations.BehindNames.{braces_layer, value_layer}
use Rattle.items.proofs.FileInitialisers.{array_by_value, array_refused, array_told, number_below}
use Rattle.items.proofs.initialising.array_initialised.Goals as goal

pub returns-in-Value : goal.returns-in-Value
returns-in-Value g c = array_by_value c.args.checker.now.abi c.args.name.now c.args.listed c.args.init.now c.args.context.now c.ask_surplus.new.context c.args.item c.in-Value.value c.in-Value.after _ c.ask_surplus.result
    (value_layer c.args.init.now c.in-Value.value c.in-Value.after c.in-Value.is) refl c.ask_surplus.ensures

pub ask_initialiser-requires-clause-slot : goal.ask_initialiser-requires-clause-slot
ask_initialiser-requires-clause-slot g c = c.in_ok-ctype.ensures.below

pub tell_size-requires : goal.tell_size-requires
tell_size-requires g c = number_below c.args.checker.now.abi c.args.name.now c.args.listed c.args.init.now c.in-Braces.parts (braces_layer c.args.init.now c.in-Braces.parts c.in-Braces.is) c.args.item c.in_ok-ctype.ctype c.len.result c.args.context.now c.array_of.new.self c.ask_initialiser.new.context
    c.len.ensures c.in_ok-ctype.ensures
    c.in-Passes.field-0 c.in_ok-ask_initialiser.field-0 c.in-Passes.is c.in_ok-ask_initialiser.ensures

pub returns-in-Passes : goal.returns-in-Passes
returns-in-Passes g c = array_told c.args.checker.now.abi c.args.name.now c.args.listed c.args.init.now c.in-Braces.parts (braces_layer c.args.init.now c.in-Braces.parts c.in-Braces.is) c.args.item c.in_ok-ctype.ctype c.len.result c.args.context.now c.array_of.new.self c.ask_initialiser.new.context
    c.len.ensures c.in_ok-ctype.ensures
    c.tell_size.new.context c.in-Passes.field-0 c.in_ok-ask_initialiser.field-0 c.tell_size.result c.in-Passes.is c.in_ok-ask_initialiser.ensures (c.tell_size.ensures c.args.checker.now.abi)

pub returns-in-Refused : goal.returns-in-Refused
returns-in-Refused g c = array_refused c.args.checker.now.abi c.args.name.now c.args.listed c.args.init.now c.in-Braces.parts (braces_layer c.args.init.now c.in-Braces.parts c.in-Braces.is) c.args.item c.in_ok-ctype.ctype c.len.result c.args.context.now c.array_of.new.self c.ask_initialiser.new.context
    c.len.ensures c.in_ok-ctype.ensures
    c.in-Refused.fault c.in_ok-ask_initialiser.field-0 c.in-Refused.is c.in_ok-ask_initialiser.ensures
