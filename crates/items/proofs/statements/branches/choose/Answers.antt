-- The parts of an `if`, one behind the other.
use Rattle.std.proofs.Common.{◌∷◌}
use Rattle.typing.specs.Statements.{Condition, ValueOf, Branch, other_branch}
use Rattle.expressions.specs.declared.found.Found.TheVariants.{Passes, Refused}
use Rattle.expressions.specs.Found.{nothing}
use Rattle.expressions.specs.Walked.{Walked}
use Rattle.items.specs.statements.Parts.{SaysPart, SaysParts}
use Rattle.items.proofs.statements.Enclosed.{of_result}
use Rattle.items.proofs.statements.Parts.{condition_part, part_stops, part_passes, other_left_out, other_walked}
use Rattle.items.proofs.statements.branches.choose.Goals as goal

pub returns-in-Refused : goal.returns-in-Refused
returns-in-Refused g c =
    let abi = c.args.checker.now.abi in
    part_stops abi (ValueOf Condition c.args.test.now) (Branch c.args.yes.now ∷ other_branch c.args.no.now) c.args.context.now c.value.new.context c.in-Refused.fault c.in_ok-value.field-0 c.in-Refused.is
    (condition_part abi c.args.test.now c.args.context.now c.value.new.context c.in_ok-value.field-0 c.in_ok-value.ensures)

pub returns-in-Refused-2 : goal.returns-in-Refused-2
returns-in-Refused-2 g c =
    let abi = c.args.checker.now.abi in
    let others = other_branch c.args.no.now in
    part_passes abi (ValueOf Condition c.args.test.now) (Branch c.args.yes.now ∷ others) c.args.context.now c.value.new.context c.branch-checker.new.context c.in-Passes.field-0 c.in_ok-value.field-0
    (Refused c.in-Refused-2.fault) c.in-Passes.is (condition_part abi c.args.test.now c.args.context.now c.value.new.context c.in_ok-value.field-0 c.in_ok-value.ensures)
    (part_stops abi (Branch c.args.yes.now) others c.value.new.context c.branch-checker.new.context c.in-Refused-2.fault c.in_ok-branch.field-0 c.in-Refused-2.is c.in_ok-branch.ensures)

pub returns-in-None : goal.returns-in-None
returns-in-None g c =
    let abi = c.args.checker.now.abi in
    let others = other_branch c.args.no.now in
    part_passes abi (ValueOf Condition c.args.test.now) (Branch c.args.yes.now ∷ others) c.args.context.now c.value.new.context c.branch-checker.new.context c.in-Passes.field-0 c.in_ok-value.field-0
    (Passes tt) c.in-Passes.is (condition_part abi c.args.test.now c.args.context.now c.value.new.context c.in_ok-value.field-0 c.in_ok-value.ensures)
    (part_passes abi (Branch c.args.yes.now) others c.value.new.context c.branch-checker.new.context c.branch-checker.new.context c.in-Passes-2.field-0 c.in_ok-branch.field-0
    (Passes tt) c.in-Passes-2.is c.in_ok-branch.ensures (other_left_out abi c.args.no.now c.branch-checker.new.context c.in-None.is))

pub returns-in-Some : goal.returns-in-Some
returns-in-Some g c =
    let abi = c.args.checker.now.abi in
    let others = other_branch c.args.no.now in
    let new = c.branch-checker-in-Some.new.context in
    of_result (λ found. Walked (SaysPart abi (Branch c.get.result.now)) nothing c.branch-checker.new.context new found)
    (λ found. Walked (SaysParts abi (ValueOf Condition c.args.test.now ∷ Branch c.args.yes.now ∷ others)) nothing c.args.context.now new found)
    c.branch-checker-in-Some.result
    (λ found walked. part_passes abi (ValueOf Condition c.args.test.now) (Branch c.args.yes.now ∷ others) c.args.context.now c.value.new.context new c.in-Passes.field-0 c.in_ok-value.field-0
    found c.in-Passes.is (condition_part abi c.args.test.now c.args.context.now c.value.new.context c.in_ok-value.field-0 c.in_ok-value.ensures)
    (part_passes abi (Branch c.args.yes.now) others c.value.new.context c.branch-checker.new.context new c.in-Passes-2.field-0 c.in_ok-branch.field-0
    found c.in-Passes-2.is c.in_ok-branch.ensures (other_walked abi c.args.no.now c.in-Some.no c.get.result.now c.branch-checker.new.context new found c.in-Some.is c.get.ensures walked)))
    c.branch-checker-in-Some.ensures
