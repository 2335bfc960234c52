-- The parts of a `do`, one behind the other.
use Rattle.std.proofs.Common.{◌∷◌, []}
use Rattle.typing.specs.Statements.{Condition, ValueOf, LoopBody}
use Rattle.expressions.specs.Found.{nothing}
use Rattle.expressions.specs.Walked.{Walked}
use Rattle.items.specs.declared.statements.demands.Demand.TheVariants as by_number
use Rattle.items.specs.statements.Parts.{SaysValue, SaysParts}
use Rattle.items.proofs.statements.Enclosed.{of_result}
use Rattle.items.proofs.statements.Parts.{condition_part, part_alone, part_stops, part_passes}
use Rattle.items.proofs.statements.loops.do_loop.Goals as goal

pub returns-in-Passes : goal.returns-in-Passes
returns-in-Passes g c =
    let abi = c.args.checker.now.abi in
    let test = ValueOf Condition c.args.test.now in
    let body = LoopBody c.args.body.now in
    let mid = c.loop_body.new.context in
    let new = c.value.new.context in
    of_result (λ found. Walked (SaysValue abi by_number.Condition c.args.test.now) nothing mid new found) (λ found. Walked (SaysParts abi (body ∷ test ∷ [])) nothing c.args.context.now new found) c.value.result
    (λ found walked. part_passes abi body (test ∷ []) c.args.context.now mid new c.in-Passes.field-0 c.in_ok-loop_body.field-0 found c.in-Passes.is c.in_ok-loop_body.ensures
    (part_alone abi test mid new found (condition_part abi c.args.test.now mid new found walked)))
    c.value.ensures

pub returns-in-Refused : goal.returns-in-Refused
returns-in-Refused g c = part_stops c.args.checker.now.abi (LoopBody c.args.body.now) (ValueOf Condition c.args.test.now ∷ []) c.args.context.now c.loop_body.new.context c.in-Refused.fault
    c.in_ok-loop_body.field-0 c.in-Refused.is c.in_ok-loop_body.ensures
