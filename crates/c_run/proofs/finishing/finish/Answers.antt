-- One step after the other, until nothing is left.
use Rattle.std.proofs.Common.{◌≡◌, ℕ, ◌-◌, suc, ◌∙◌, sym, subst, arith}
use Rattle.c_machine.specs.Trees.{text_of}
use Rattle.c_run.proofs.StepsLeft.{all_done, at_first, last_step, one_step_on, too_many, some_there, none_there, Finishes}
use Rattle.c_run.proofs.finishing.finish.Goals as goal

pub turns-init : goal.turns-init
turns-init c = record { count = omega arith; goes = λ n p stands strict defined. at_first (text_of p) c.args.steps c.args.state.now c.args.choices.now }

pub returns-clause-done : goal.returns-clause-done
returns-clause-done c = λ n p stands strict defined.
    all_done (text_of p) c.args.steps c.turns.left c.args.state.now c.turns.state c.args.choices.now c.turns.choices (c.turns.invariant.goes n p stands strict defined)
    (none_there c.is_done.result c.turns.state.tasks c.is_done.ensures.0 c.turns-test.false)

pub returns-then-left-eq0-clause-done : goal.returns-then-left-eq0-clause-done
returns-then-left-eq0-clause-done c = λ n p stands strict defined.
    too_many (text_of p) c.args.steps c.args.state.now c.turns.state c.args.choices.now c.turns.choices
    (subst (λ (left : ℕ). Finishes (text_of p) c.args.steps left c.args.state.now c.args.choices.now c.turns.state c.turns.choices) c.if-left-eq0.true (c.turns.invariant.goes n p stands strict defined))
    (some_there c.is_done.result c.turns.state.tasks c.is_done.ensures.1 c.turns-test.true)

pub returns-then-not-goes_on-clause-done : goal.returns-then-not-goes_on-clause-done
returns-then-not-goes_on-clause-done c = λ n p stands strict defined.
    let next : c.turns.left ≡ suc (c.turns.left - 1) = omega (arith, c.if-left-eq0.false) in
    last_step (text_of p) c.args.steps (c.turns.left - 1) c.in_ok-stepped.stepped c.args.state.now c.turns.state c.step.new.state c.args.choices.now c.turns.choices c.step.new.choices
    (subst (λ (left : ℕ). Finishes (text_of p) c.args.steps left c.args.state.now c.args.choices.now c.turns.state c.turns.choices) next (c.turns.invariant.goes n p stands strict defined))
    (some_there c.is_done.result c.turns.state.tasks c.is_done.ensures.1 c.turns-test.true)
    (sym c.goes_on.ensures ∙ c.if-not-goes_on.true) (c.in_ok-stepped.ensures.ok n p stands strict defined)

pub turns-smaller : goal.turns-smaller
turns-smaller c = omega (arith, c.if-left-eq0.false)

pub turns-preserved : goal.turns-preserved
turns-preserved c = record {
  count = omega (arith, c.turns.invariant.count);
  goes = λ n p stands strict defined.
      let next : c.turns.left ≡ suc (c.turns.left - 1) = omega (arith, c.if-left-eq0.false) in
      one_step_on (text_of p) c.args.steps (c.turns.left - 1) c.in_ok-stepped.stepped c.args.state.now c.turns.state c.step.new.state c.args.choices.now c.turns.choices c.step.new.choices
      (subst (λ (left : ℕ). Finishes (text_of p) c.args.steps left c.args.state.now c.args.choices.now c.turns.state c.turns.choices) next (c.turns.invariant.goes n p stands strict defined))
      (some_there c.is_done.result c.turns.state.tasks c.is_done.ensures.1 c.turns-test.true)
      (sym c.goes_on.ensures ∙ c.if-not-goes_on.false) (c.in_ok-stepped.ensures.ok n p stands strict defined);
}
