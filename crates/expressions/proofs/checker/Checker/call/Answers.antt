-- A call: its callee, told as a function that it names or as an operand, its arguments, and the call behind them.
use Rattle.std.proofs.Common.{ap}
use Rattle.expressions.proofs.Calling.{without, a_callee, call_parts, IsCalleeTold, told_by_name, told_by_value, callee_found, callee_refused, argument_refused, parts_pass, signature_below, call_found, counted_of}
use Rattle.expressions.proofs.Walking.{passed_of}
use Rattle.expressions.proofs.checker.Checker.call.Goals as goal
use Rattle.expressions.proofs.checker.Checker.call.Goals.{in-Some, in-None}

pub called_function-told-requires : goal.called_function-told-requires
called_function-told-requires g c = c.in-Some.ensures.signature

pub loaded-told-requires-clause-nests : goal.loaded-told-requires-clause-nests
loaded-told-requires-clause-nests g c = c.requires.nests

pub loaded-told-requires-clause-deep : goal.loaded-told-requires-clause-deep
loaded-told-requires-clause-deep g c = c.requires.callee

pub arguments-requires-clause-nests : goal.arguments-requires-clause-nests
arguments-requires-clause-nests g c = c.requires.nests

pub arguments-requires-clause-deep : goal.arguments-requires-clause-deep
arguments-requires-clause-deep g c = c.requires.args

pub arguments-requires-clause-empty : goal.arguments-requires-clause-empty
arguments-requires-clause-empty g c = c.new-known.ensures.items

pub returns-in-Ok-Refused : goal.returns-in-Ok-Refused
returns-in-Ok-Refused g c =
    let told : IsCalleeTold c.args.self.now.abi c.args.callee.now c.named_function-function.result c.args.context.now c.match-function.context c.match-function.told = elim c.match-function.branch [
      | in-Some w ↦ told_by_name c.args.self.now.abi c.args.callee.now c.named_function-function.result c.args.context.now w.in-Some.function w.called_function-told.new.context c.match-function.context w.called_function-told.result c.match-function.told w.told-is w.context-is w.in-Some.is w.in-Some.ensures.some w.called_function-told.ensures
      | in-None w ↦ told_by_value c.args.self.now.abi c.args.callee.now c.named_function-function.result c.args.context.now w.loaded-told.new.context c.match-function.context w.loaded-told.result c.match-function.told w.told-is w.context-is w.in-None.is w.in-None.ensures.none w.loaded-told.ensures
    ] in
    callee_refused c.args.self.now.abi c.args.node.number c.args.node.place c.args.callee.now c.args.args.now (a_callee c.named_function-function.result) c.args.context.now c.match-function.context c.in-Ok-Refused.fault (without c.in-Ok-Refused.field-0) (ap without (rw c.in-Ok-Refused.is at c.in-Ok-Refused.field-0-is))
    (callee_found c.args.self.now.abi c.args.callee.now c.named_function-function.result c.args.context.now c.match-function.context c.match-function.told c.in-Ok-Refused.field-0 c.in-Ok-Refused.is told)

pub returns-in-Ok-Refused-arguments : goal.returns-in-Ok-Refused-arguments
returns-in-Ok-Refused-arguments g c =
    let told : IsCalleeTold c.args.self.now.abi c.args.callee.now c.named_function-function.result c.args.context.now c.match-function.context c.match-function.told = elim c.match-function.branch [
      | in-Some w ↦ told_by_name c.args.self.now.abi c.args.callee.now c.named_function-function.result c.args.context.now w.in-Some.function w.called_function-told.new.context c.match-function.context w.called_function-told.result c.match-function.told w.told-is w.context-is w.in-Some.is w.in-Some.ensures.some w.called_function-told.ensures
      | in-None w ↦ told_by_value c.args.self.now.abi c.args.callee.now c.named_function-function.result c.args.context.now w.loaded-told.new.context c.match-function.context w.loaded-told.result c.match-function.told w.told-is w.context-is w.in-None.is w.in-None.ensures.none w.loaded-told.ensures
    ] in
    argument_refused c.args.self.now.abi c.args.node.number c.args.node.place c.args.callee.now c.args.args.now (a_callee c.named_function-function.result) c.arguments.new.known.items c.args.context.now c.match-function.context c.arguments.new.context tt c.in-Ok-Refused-arguments.fault (without c.in-Ok-Passes.field-0) c.in-Ok-Refused-arguments.field-0
    (ap without (rw c.in-Ok-Passes.is at c.in-Ok-Passes.field-0-is)) (callee_found c.args.self.now.abi c.args.callee.now c.named_function-function.result c.args.context.now c.match-function.context c.match-function.told c.in-Ok-Passes.field-0 c.in-Ok-Passes.is told) c.in-Ok-Refused-arguments.field-0-is c.in-Ok-Refused-arguments.ensures.walk

pub call_node-requires-clause-signature : goal.call_node-requires-clause-signature
call_node-requires-clause-signature g c =
    let told : IsCalleeTold c.args.self.now.abi c.args.callee.now c.named_function-function.result c.args.context.now c.match-function.context c.match-function.told = elim c.match-function.branch [
      | in-Some w ↦ told_by_name c.args.self.now.abi c.args.callee.now c.named_function-function.result c.args.context.now w.in-Some.function w.called_function-told.new.context c.match-function.context w.called_function-told.result c.match-function.told w.told-is w.context-is w.in-Some.is w.in-Some.ensures.some w.called_function-told.ensures
      | in-None w ↦ told_by_value c.args.self.now.abi c.args.callee.now c.named_function-function.result c.args.context.now w.loaded-told.new.context c.match-function.context w.loaded-told.result c.match-function.told w.told-is w.context-is w.in-None.is w.in-None.ensures.none w.loaded-told.ensures
    ] in
    signature_below c.args.self.now.abi c.args.node.number c.args.node.place c.args.callee.now c.args.args.now (call_parts c.named_function-function.result c.arguments.new.known.items) c.named_function-function.result c.args.context.now c.arguments.new.context
    (parts_pass c.args.self.now.abi c.args.node.number c.args.node.place c.args.callee.now c.args.args.now c.named_function-function.result c.arguments.new.known.items c.args.context.now c.match-function.context c.arguments.new.context c.in-Ok-Passes-arguments.field-0-0 (without c.in-Ok-Passes.field-0) c.in-Ok-Passes-arguments.field-0
    (ap without (rw c.in-Ok-Passes.is at c.in-Ok-Passes.field-0-is)) (callee_found c.args.self.now.abi c.args.callee.now c.named_function-function.result c.args.context.now c.match-function.context c.match-function.told c.in-Ok-Passes.field-0 c.in-Ok-Passes.is told) c.in-Ok-Passes-arguments.field-0-is c.in-Ok-Passes-arguments.ensures.walk)
    c.named_function-function.ensures.signature

pub call_node-requires-clause-known : goal.call_node-requires-clause-known
call_node-requires-clause-known g c = rw c.deref.ensures.value (passed_of _ _ _ _ _ _ c.in-Ok-Passes-arguments.field-0-is c.in-Ok-Passes-arguments.ensures.walk).below

pub call_node-requires-clause-count : goal.call_node-requires-clause-count
call_node-requires-clause-count g c = rw c.deref.ensures.value (counted_of c.in-Ok-Passes-arguments.field-0 c.in-Ok-Passes-arguments.field-0-0 _ _ c.in-Ok-Passes-arguments.field-0-is c.in-Ok-Passes-arguments.ensures.count)

pub returns-in-Ok-Passes-arguments : goal.returns-in-Ok-Passes-arguments
returns-in-Ok-Passes-arguments g c =
    let told : IsCalleeTold c.args.self.now.abi c.args.callee.now c.named_function-function.result c.args.context.now c.match-function.context c.match-function.told = elim c.match-function.branch [
      | in-Some w ↦ told_by_name c.args.self.now.abi c.args.callee.now c.named_function-function.result c.args.context.now w.in-Some.function w.called_function-told.new.context c.match-function.context w.called_function-told.result c.match-function.told w.told-is w.context-is w.in-Some.is w.in-Some.ensures.some w.called_function-told.ensures
      | in-None w ↦ told_by_value c.args.self.now.abi c.args.callee.now c.named_function-function.result c.args.context.now w.loaded-told.new.context c.match-function.context w.loaded-told.result c.match-function.told w.told-is w.context-is w.in-None.is w.in-None.ensures.none w.loaded-told.ensures
    ] in
    call_found c.args.self.now.abi c.args.node.number c.args.node.place c.args.callee.now c.args.args.now c.named_function-function.result c.arguments.new.known.items c.deref.result.now c.args.context.now c.arguments.new.context _ c.call_node.result
    c.named_function-function.ensures.place c.deref.ensures.value (counted_of c.in-Ok-Passes-arguments.field-0 c.in-Ok-Passes-arguments.field-0-0 _ _ c.in-Ok-Passes-arguments.field-0-is c.in-Ok-Passes-arguments.ensures.count) c.call_node.ensures.some c.call_node.ensures.none
    (parts_pass c.args.self.now.abi c.args.node.number c.args.node.place c.args.callee.now c.args.args.now c.named_function-function.result c.arguments.new.known.items c.args.context.now c.match-function.context c.arguments.new.context c.in-Ok-Passes-arguments.field-0-0 (without c.in-Ok-Passes.field-0) c.in-Ok-Passes-arguments.field-0
    (ap without (rw c.in-Ok-Passes.is at c.in-Ok-Passes.field-0-is)) (callee_found c.args.self.now.abi c.args.callee.now c.named_function-function.result c.args.context.now c.match-function.context c.match-function.told c.in-Ok-Passes.field-0 c.in-Ok-Passes.is told) c.in-Ok-Passes-arguments.field-0-is c.in-Ok-Passes-arguments.ensures.walk)
