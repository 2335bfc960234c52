-- The parts of a `while`, one behind the other.
use Rattle.std.proofs.Common.{◌∷◌, []}
use Rattle.typing.specs.Statements.{Condition, ValueOf, LoopBody}
use Rattle.expressions.specs.Found.{nothing}
use Rattle.expressions.specs.Walked.{Walked}
use Rattle.items.specs.statements.Parts.{SaysPart, SaysParts}
use Rattle.items.proofs.statements.Enclosed.{of_result}
use Rattle.items.proofs.statements.Parts.{condition_part, part_alone, part_stops, part_passes}
use Rattle.items.proofs.statements.loops.while_loop.Goals as goal

pub returns-in-Passes : goal.returns-in-Passes
returns-in-Passes g c =
    let abi = c.args.checker.now.abi in
    let test = ValueOf Condition c.args.test.now in
    let body = LoopBody c.args.body.now in
    let new = c.loop_body.new.context in
    of_result (λ found. Walked (SaysPart abi body) nothing c.value.new.context new found) (λ found. Walked (SaysParts abi (test ∷ body ∷ [])) nothing c.args.context.now new found) c.loop_body.result
    (λ found walked. part_passes abi test (body ∷ []) c.args.context.now c.value.new.context new c.in-Passes.field-0 c.in_ok-value.field-0 found c.in-Passes.is
    (condition_part abi c.args.test.now c.args.context.now c.value.new.context c.in_ok-value.field-0 c.in_ok-value.ensures) (part_alone abi body c.value.new.context new found walked))
    c.loop_body.ensures

pub returns-in-Refused : goal.returns-in-Refused
returns-in-Refused g c =
    let abi = c.args.checker.now.abi in
    part_stops abi (ValueOf Condition c.args.test.now) (LoopBody c.args.body.now ∷ []) c.args.context.now c.value.new.context c.in-Refused.fault c.in_ok-value.field-0 c.in-Refused.is
    (condition_part abi c.args.test.now c.args.context.now c.value.new.context c.in_ok-value.field-0 c.in_ok-value.ensures)
