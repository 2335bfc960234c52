-- The parts of a `for`, one behind the other.
use Rattle.std.proofs.Common.{◌∷◌, ◌++◌, []}
use Rattle.typing.specs.Statements.{Condition, Dropped, Whole, LoopBody, optional}
use Rattle.expressions.specs.declared.found.Found.TheVariants.{Refused}
use Rattle.expressions.specs.Found.{nothing}
use Rattle.expressions.specs.Walked.{Walked}
use Rattle.items.specs.statements.Parts.{SaysPart, SaysParts}
use Rattle.items.proofs.statements.Enclosed.{of_result}
use Rattle.items.proofs.statements.Parts.{part_alone, part_stops, part_passes, condition_left, condition_passes, dropped_left, dropped_passes}
use Rattle.items.proofs.statements.Scopes.{whole_part}
use Rattle.items.proofs.statements.loops.for_loop.Goals as goal

pub returns-in-Refused : goal.returns-in-Refused
returns-in-Refused g c =
    let abi = c.args.checker.now.abi in
    let rest = optional Condition c.args.test.now ++ (optional Dropped c.args.next.now ++ LoopBody c.args.body.now ∷ []) in
    part_stops abi (Whole c.args.first.now) rest c.args.context.now c.ask_statement.new.context c.in-Refused.fault c.in_ok-ask_statement.field-0 c.in-Refused.is
    (whole_part abi c.args.first.now c.args.context.now c.ask_statement.new.context c.in_ok-ask_statement.field-0 c.in_ok-ask_statement.ensures)

pub returns-in-Refused-2 : goal.returns-in-Refused-2
returns-in-Refused-2 g c =
    let abi = c.args.checker.now.abi in
    let next = optional Dropped c.args.next.now ++ LoopBody c.args.body.now ∷ [] in
    let one = c.ask_statement.new.context in
    let new = c.optional.new.context in
    part_passes abi (Whole c.args.first.now) (optional Condition c.args.test.now ++ next) c.args.context.now one new c.in-Passes.field-0 c.in_ok-ask_statement.field-0
    (Refused c.in-Refused-2.fault) c.in-Passes.is (whole_part abi c.args.first.now c.args.context.now one c.in_ok-ask_statement.field-0 c.in_ok-ask_statement.ensures)
    (condition_left abi c.args.test.now next one new c.in-Refused-2.fault c.in_ok-optional.field-0 c.in-Refused-2.is c.in_ok-optional.ensures)

pub returns-in-Refused-3 : goal.returns-in-Refused-3
returns-in-Refused-3 g c =
    let abi = c.args.checker.now.abi in
    let body = LoopBody c.args.body.now ∷ [] in
    let next = optional Dropped c.args.next.now ++ body in
    let one = c.ask_statement.new.context in
    let two = c.optional.new.context in
    let new = c.optional-2.new.context in
    part_passes abi (Whole c.args.first.now) (optional Condition c.args.test.now ++ next) c.args.context.now one new c.in-Passes.field-0 c.in_ok-ask_statement.field-0
    (Refused c.in-Refused-3.fault) c.in-Passes.is (whole_part abi c.args.first.now c.args.context.now one c.in_ok-ask_statement.field-0 c.in_ok-ask_statement.ensures)
    (condition_passes abi c.args.test.now next one two new c.in-Passes-2.field-0 c.in_ok-optional.field-0 (Refused c.in-Refused-3.fault) c.in-Passes-2.is c.in_ok-optional.ensures
    (dropped_left abi c.args.next.now body two new c.in-Refused-3.fault c.in_ok-optional-2.field-0 c.in-Refused-3.is c.in_ok-optional-2.ensures))

pub returns : goal.returns
returns g c =
    let abi = c.args.checker.now.abi in
    let body = LoopBody c.args.body.now in
    let next = optional Dropped c.args.next.now ++ body ∷ [] in
    let one = c.ask_statement.new.context in
    let two = c.optional.new.context in
    let three = c.optional-2.new.context in
    let new = c.loop_body.new.context in
    of_result (λ found. Walked (SaysPart abi body) nothing three new found)
    (λ found. Walked (SaysParts abi (Whole c.args.first.now ∷ (optional Condition c.args.test.now ++ next))) nothing c.args.context.now new found) c.loop_body.result
    (λ found walked. part_passes abi (Whole c.args.first.now) (optional Condition c.args.test.now ++ next) c.args.context.now one new c.in-Passes.field-0 c.in_ok-ask_statement.field-0
    found c.in-Passes.is (whole_part abi c.args.first.now c.args.context.now one c.in_ok-ask_statement.field-0 c.in_ok-ask_statement.ensures)
    (condition_passes abi c.args.test.now next one two new c.in-Passes-2.field-0 c.in_ok-optional.field-0 found c.in-Passes-2.is c.in_ok-optional.ensures
    (dropped_passes abi c.args.next.now (body ∷ []) two three new c.in-Passes-3.field-0 c.in_ok-optional-2.field-0 found c.in-Passes-3.is c.in_ok-optional-2.ensures
    (part_alone abi body three new found walked))))
    c.loop_body.ensures
