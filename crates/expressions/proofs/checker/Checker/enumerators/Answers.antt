-- An enum with its constants, one behind the other.
use Rattle.std.proofs.Common.{None, Ok, arith}
use Rattle.ctrees.specs.Levels.{enumerator_levels}
use Rattle.expressions.specs.declared.found.Found.TheVariants.{Passes, Refused}
use Rattle.expressions.proofs.EachItem.{each_item}
use Rattle.expressions.proofs.Enumerators.{enum_twice, enum_walked, enumerators_start, enumerators_next, enumerators_refused, enumerators_end}
use Rattle.expressions.proofs.SpecLevels.{values_within}
use Rattle.expressions.proofs.checker.Checker.enumerators.Goals as goal

pub loop-constant-init : goal.loop-constant-init
loop-constant-init g c = enumerators_start c.args.self.now.abi c.as_slice-constants.result.now c.open_enum.new.self

pub loop-constant-preserved : goal.loop-constant-preserved
loop-constant-preserved g c = rw c.next_value-next.ensures (enumerators_next c.args.self.now.abi c.as_slice-constants.result.now c.loop-constant.next c.open_enum.new.self c.loop-constant.context c.enumerator.new.context c.loop-constant.constant-index c.constant-item.result c.in-Ok-Passes.bits c.in-Ok-Passes.field-0
    c.loop-constant-test.true c.constant-item.is c.in-Ok-Passes.field-0-is c.in-Ok-Passes.ensures c.loop-constant.invariant)

pub returns-in-Ok-Some : goal.returns-in-Ok-Some
returns-in-Ok-Some g c = enum_twice c.args.self.now.abi c.args.name.now c.args.values.now c.args.context.now c.open_enum.new.self c.in-Ok-Some.fault c.open_enum.result c.in-Ok-Some.field-0
    c.in-Ok-Some.is c.in-Ok-Some.field-0-is (c.open_enum.ensures c.args.self.now.abi)

pub returns-in-Ok-Refused : goal.returns-in-Ok-Refused
returns-in-Ok-Refused g c = enum_walked c.args.self.now.abi c.args.name.now c.args.values.now c.args.context.now c.open_enum.new.self c.as_slice-constants.result.now c.enumerator.new.context c.open_enum.result c.in-Ok-None.field-0 (Ok (Refused c.in-Ok-Refused.fault))
    c.as_slice-constants.ensures c.in-Ok-None.is c.in-Ok-None.field-0-is (c.open_enum.ensures c.args.self.now.abi)
    (enumerators_refused c.args.self.now.abi c.as_slice-constants.result.now c.loop-constant.next c.open_enum.new.self c.loop-constant.context c.enumerator.new.context c.loop-constant.constant-index c.constant-item.result c.in-Ok-Refused.fault c.in-Ok-Refused.field-0
    c.loop-constant-test.true c.constant-item.is c.in-Ok-Refused.field-0-is c.in-Ok-Refused.ensures c.loop-constant.invariant)

pub returns-in-Ok : goal.returns-in-Ok
returns-in-Ok g c = enum_walked c.args.self.now.abi c.args.name.now c.args.values.now c.args.context.now c.open_enum.new.self c.as_slice-constants.result.now c.integer.new.self c.open_enum.result c.in-Ok-None.field-0 (Ok (Passes (record { ctype = c.in-Ok.ctype; found = None })))
    c.as_slice-constants.ensures c.in-Ok-None.is c.in-Ok-None.field-0-is (c.open_enum.ensures c.args.self.now.abi)
    (enumerators_end c.args.self.now.abi c.as_slice-constants.result.now c.loop-constant.next c.open_enum.new.self c.loop-constant.context c.integer.new.self c.loop-constant.constant-index c.in-Ok.ctype
    (omega arith) c.loop-constant.invariant c.in-Ok.ensures)

pub enumerator-requires-clause-nests : goal.enumerator-requires-clause-nests
enumerator-requires-clause-nests g c = c.requires.nests

pub enumerator-requires-clause-deep : goal.enumerator-requires-clause-deep
enumerator-requires-clause-deep g c = each_item enumerator_levels c.args.self.now.depth c.as_slice-constants.result.now c.loop-constant.constant-index c.constant-item.result
    (values_within c.args.name.now c.args.values.now c.as_slice-constants.result.now c.args.self.now.depth c.as_slice-constants.ensures c.requires.deep) c.loop-constant-test.true c.constant-item.is
