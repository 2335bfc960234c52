-- Each thing to do is done by its step, and the others look at no tree.
use Rattle.std.proofs.Common.{sym, ap, ◌∙◌}
use Rattle.cbase.specs.declared.tree.expr.Expr.{Expr}
use Rattle.cbase.specs.declared.tree.stmt.Stmt.{Stmt}
use Rattle.c_machine.specs.declared.task.Task.TheVariants.{ValueOf, AddressOf, Pick, Execute, Branch, Test, Again, Initialise, BreakAt, ContinueAt, GiveBack, CallDefined}
use Rattle.c_machine.specs.Trees.{text_of}
use Rattle.c_run.proofs.tasks.MakingRoom.{on_ok}
use Rattle.c_run.proofs.MakingSteps.{none_taken, same_task}
use Rattle.c_run.proofs.PlainSteps.{other_task}
use Rattle.c_run.specs.Stepped.{IsStepOf}
use Rattle.c_run.proofs.stepping.do_task.Goals as goal

pub returns-in-ValueOf : goal.returns-in-ValueOf
returns-in-ValueOf c = record {
  ok = on_ok _ _ c.value_step.result
      (λ stepped is. λ n p stands strict defined.
      same_task (text_of p) (ValueOf c.get.result.now) c.args.task stepped c.args.state.now c.value_step.new.state c.args.choices.now c.args.choices.now
      (ap ValueOf c.get.ensures ∙ sym c.in-ValueOf.is) (is n p c.args.choices.now stands defined))
      c.value_step.ensures;
  err = none_taken c.value_step.result c.args.choices.now;
}

pub returns-in-AddressOf : goal.returns-in-AddressOf
returns-in-AddressOf c = record {
  ok = on_ok _ _ c.address_step.result
      (λ stepped is. λ n p stands strict defined.
      same_task (text_of p) (AddressOf c.get-in-AddressOf.result.now) c.args.task stepped c.args.state.now c.address_step.new.state c.args.choices.now c.args.choices.now
      (ap AddressOf c.get-in-AddressOf.ensures ∙ sym c.in-AddressOf.is) (is n p c.args.choices.now stands))
      c.address_step.ensures;
  err = none_taken c.address_step.result c.args.choices.now;
}

pub returns-in-Pick : goal.returns-in-Pick
returns-in-Pick c = record {
  ok = on_ok _ _ c.pick_step.result
      (λ stepped is. λ n p stands strict defined.
      same_task (text_of p) (Pick c.in-Pick.kind c.get-in-Pick.result.now c.get-in-Pick-2.result.now) c.args.task stepped c.args.state.now c.pick_step.new.state c.args.choices.now c.args.choices.now
      (ap (λ (one : Expr). Pick c.in-Pick.kind one c.get-in-Pick-2.result.now) c.get-in-Pick.ensures ∙ ap (Pick c.in-Pick.kind c.in-Pick.one) c.get-in-Pick-2.ensures ∙ sym c.in-Pick.is) (is n p c.args.choices.now stands))
      c.pick_step.ensures;
  err = none_taken c.pick_step.result c.args.choices.now;
}

pub returns-in-Execute : goal.returns-in-Execute
returns-in-Execute c = record {
  ok = on_ok _ _ c.statement_step.result
      (λ stepped is. λ n p stands strict defined.
      same_task (text_of p) (Execute c.get-in-Execute.result.now) c.args.task stepped c.args.state.now c.statement_step.new.state c.args.choices.now c.args.choices.now
      (ap Execute c.get-in-Execute.ensures ∙ sym c.in-Execute.is) (is n p c.args.choices.now stands))
      c.statement_step.ensures;
  err = none_taken c.statement_step.result c.args.choices.now;
}

pub returns-in-Branch : goal.returns-in-Branch
returns-in-Branch c = record {
  ok = on_ok _ _ c.branch_step.result
      (λ stepped is. λ n p stands strict defined.
      same_task (text_of p) (Branch c.get-in-Branch.result.now) c.args.task stepped c.args.state.now c.branch_step.new.state c.args.choices.now c.args.choices.now
      (ap Branch c.get-in-Branch.ensures ∙ sym c.in-Branch.is) (is p c.args.choices.now))
      c.branch_step.ensures;
  err = none_taken c.branch_step.result c.args.choices.now;
}

pub returns-in-Test : goal.returns-in-Test
returns-in-Test c = record {
  ok = on_ok _ _ c.test_step.result
      (λ stepped is. λ n p stands strict defined.
      same_task (text_of p) (Test c.get-in-Test.result.now) c.args.task stepped c.args.state.now c.test_step.new.state c.args.choices.now c.args.choices.now
      (ap Test c.get-in-Test.ensures ∙ sym c.in-Test.is) (is p c.args.choices.now))
      c.test_step.ensures;
  err = none_taken c.test_step.result c.args.choices.now;
}

pub returns-in-Again : goal.returns-in-Again
returns-in-Again c = record {
  ok = on_ok _ _ c.again_step.result
      (λ stepped is. λ n p stands strict defined.
      same_task (text_of p) (Again c.get-in-Again.result.now c.in-Again.held) c.args.task stepped c.args.state.now c.again_step.new.state c.args.choices.now c.args.choices.now
      (ap (λ (stmt : Stmt). Again stmt c.in-Again.held) c.get-in-Again.ensures ∙ sym c.in-Again.is) (is p c.in-Again.held c.args.choices.now))
      c.again_step.ensures;
  err = none_taken c.again_step.result c.args.choices.now;
}

pub returns-in-Initialise : goal.returns-in-Initialise
returns-in-Initialise c = record {
  ok = on_ok _ _ c.initialiser_step.result
      (λ stepped is. λ n p stands strict defined.
      same_task (text_of p) (Initialise c.in-Initialise.place c.get-in-Initialise.result.now) c.args.task stepped c.args.state.now c.initialiser_step.new.state c.args.choices.now c.args.choices.now
      (ap (Initialise c.in-Initialise.place) c.get-in-Initialise.ensures ∙ sym c.in-Initialise.is) (is n p c.args.choices.now stands))
      c.initialiser_step.ensures;
  err = none_taken c.initialiser_step.result c.args.choices.now;
}

pub returns-in-BreakAt : goal.returns-in-BreakAt
returns-in-BreakAt c = record {
  ok = on_ok _ _ c.break_step.result
      (λ stepped is. λ n p stands strict defined.
      same_task (text_of p) (BreakAt c.in-BreakAt.word) c.args.task stepped c.args.state.now c.break_step.new.state c.args.choices.now c.args.choices.now
      (sym c.in-BreakAt.is) (is p c.args.choices.now))
      c.break_step.ensures;
  err = none_taken c.break_step.result c.args.choices.now;
}

pub returns-in-ContinueAt : goal.returns-in-ContinueAt
returns-in-ContinueAt c = record {
  ok = on_ok _ _ c.continue_step.result
      (λ stepped is. λ n p stands strict defined.
      same_task (text_of p) (ContinueAt c.in-ContinueAt.word) c.args.task stepped c.args.state.now c.continue_step.new.state c.args.choices.now c.args.choices.now
      (sym c.in-ContinueAt.is) (is p c.args.choices.now))
      c.continue_step.ensures;
  err = none_taken c.continue_step.result c.args.choices.now;
}

pub returns-in-GiveBack : goal.returns-in-GiveBack
returns-in-GiveBack c = record {
  ok = on_ok _ _ c.return_step.result
      (λ stepped is. λ n p stands strict defined.
      same_task (text_of p) (GiveBack c.in-GiveBack.place c.in-GiveBack.kind) c.args.task stepped c.args.state.now c.return_step.new.state c.args.choices.now c.args.choices.now
      (sym c.in-GiveBack.is) (is p c.args.choices.now))
      c.return_step.ensures;
  err = none_taken c.return_step.result c.args.choices.now;
}

pub returns-in-CallDefined : goal.returns-in-CallDefined
returns-in-CallDefined c = record {
  ok = on_ok _ _ c.call_step.result
      (λ stepped is. λ n p stands strict defined.
      same_task (text_of p) (CallDefined c.in-CallDefined.number) c.args.task stepped c.args.state.now c.call_step.new.state c.args.choices.now c.args.choices.now
      (sym c.in-CallDefined.is) (is n p c.args.choices.now stands defined))
      c.call_step.ensures;
  err = none_taken c.call_step.result c.args.choices.now;
}

pub returns-in_default : goal.returns-in_default
returns-in_default c = record {
  ok = on_ok _ _ c.other_step.result
      (λ stepped is. λ n p stands strict defined.
      other_task (IsStepOf (text_of p) c.args.task stepped c.args.state.now c.args.choices.now c.other_step.new.state c.other_step.new.choices) c.args.strict c.args.task c.args.state.now c.args.choices.now
      c.in_default.not-ValueOf c.in_default.not-AddressOf c.in_default.not-Pick c.in_default.not-Execute c.in_default.not-Branch c.in_default.not-Test c.in_default.not-Again
      c.in_default.not-Initialise c.in_default.not-BreakAt c.in_default.not-ContinueAt c.in_default.not-GiveBack c.in_default.not-CallDefined (is p strict))
      c.other_step.ensures.ok;
  err = c.other_step.ensures.err;
}
