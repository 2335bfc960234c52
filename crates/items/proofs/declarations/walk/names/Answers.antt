-- The names of a declaration, one behind the other.
use Rattle.std.proofs.Common.{arith}
use Rattle.expressions.proofs.Growth.{below_grows}
use Rattle.items.proofs.declarations.DeclaredNames.{names_start, names_next, names_refused, names_end}
use Rattle.items.proofs.declarations.walk.names.Goals as goal

pub loop-name-init : goal.loop-name-init
loop-name-init g c = names_start c.args.checker.now.abi c.args.storage c.args.base c.args.names.now c.args.context.now

pub declared_name-requires-clause-base : goal.declared_name-requires-clause-base
declared_name-requires-clause-base g c = below_grows c.args.context.now c.loop-name.context c.loop-name.invariant.grows c.args.base.ctype c.requires.base

pub returns-in-Refused : goal.returns-in-Refused
returns-in-Refused g c = names_refused c.args.checker.now.abi c.args.storage c.args.base c.args.names.now c.args.context.now c.loop-name.context c.declared_name.new.context c.loop-name.name-index c.name-item.result c.in-Refused.fault c.in_ok-declared_name.field-0
    c.loop-name-test.true c.name-item.is c.in-Refused.is c.in_ok-declared_name.ensures c.loop-name.invariant

pub loop-name-preserved : goal.loop-name-preserved
loop-name-preserved g c = names_next c.args.checker.now.abi c.args.storage c.args.base c.args.names.now c.args.context.now c.loop-name.context c.declared_name.new.context c.loop-name.name-index c.name-item.result c.in-Passes.field-0 c.in_ok-declared_name.field-0
    c.loop-name-test.true c.name-item.is c.in-Passes.is c.in_ok-declared_name.ensures c.loop-name.invariant

pub returns : goal.returns
returns g c = names_end c.args.checker.now.abi c.args.storage c.args.base c.args.names.now c.args.context.now c.loop-name.context c.loop-name.name-index (omega arith) c.loop-name.invariant
