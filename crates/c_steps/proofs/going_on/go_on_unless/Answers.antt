-- What was done says which fault is met, or from which state the run goes on.
use Rattle.std.proofs.Common.{◌∙◌, sym, ap}
use Rattle.c_machine.specs.State.{Went, unless_fault, with_operand}
use Rattle.c_steps.proofs.Answered.{faulted, went_unless, on_ok}
use Rattle.c_steps.proofs.Popping.{went_on}
use Rattle.c_steps.proofs.going_on.go_on_unless.Goals as goal

pub returns-in-Err : goal.returns-in-Err
returns-in-Err g c fault next is same choices =
    sym (faulted fault _ c.in-Err.kind c.args.place (Went (with_operand c.args.operand next) choices) (sym c.in-Err.is ∙ is))

pub returns-in-Ok : goal.returns-in-Ok
returns-in-Ok g c fault next is same =
    went_on c.go_on_with.result c.go_on_with.new.state (with_operand c.args.operand c.args.state.now)
    (λ choices. unless_fault fault c.args.place (Went (with_operand c.args.operand next) choices)) c.go_on_with.ensures
    (λ choices. went_unless fault _ _ c.args.place (with_operand c.args.operand c.args.state.now) (with_operand c.args.operand next) choices
    (ap (with_operand c.args.operand) (on_ok c.args.done _ c.in-Ok.is same)) (sym c.in-Ok.is ∙ is))
