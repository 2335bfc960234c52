-- The steps that are left come to what all come to, and those that are done have left the choices.
use Rattle.std.proofs.Common.{◌∙◌, sym, arith}
use Rattle.c_machine.specs.Trees.{text_of}
use Rattle.c_run.proofs.RunsOn.{all_done, at_first, comes_to_end, goes_further, left_there, none_done, one_more_done, where_wanting}
use Rattle.c_run.proofs.running.run.Goals as goal

pub loop-left-init : goal.loop-left-init
loop-left-init c = record {
  count = omega arith;
  goes = λ n p stands strict defined. at_first (text_of p) c.args.steps c.args.state.now c.args.choices.now;
  went = λ n p stands strict defined. none_done (text_of p) c.args.steps c.args.state.now c.args.choices.now;
}

pub loop-left-preserved : goal.loop-left-preserved
loop-left-preserved c = record {
  count = omega arith;
  goes = λ n p stands strict defined.
      goes_further (text_of p) c.args.steps c.loop-left.left c.in_ok-stepped.stepped c.args.state.now c.loop-left.state c.step.new.state c.args.choices.now c.loop-left.choices c.step.new.choices
      c.loop-left-test.true (c.loop-left.invariant.goes n p stands strict defined) (sym c.goes_on.ensures ∙ c.if-not-goes_on.false) (c.in_ok-stepped.ensures.ok n p stands strict defined);
  went = λ n p stands strict defined.
      one_more_done (text_of p) c.args.steps c.loop-left.left c.in_ok-stepped.stepped c.args.state.now c.loop-left.state c.step.new.state c.args.choices.now c.loop-left.choices c.step.new.choices
      c.loop-left-test.true c.loop-left.invariant.count (c.loop-left.invariant.went n p stands strict defined) (sym c.goes_on.ensures ∙ c.if-not-goes_on.false) (c.in_ok-stepped.ensures.ok n p stands strict defined);
}

pub returns-then-not-goes_on-clause-ok : goal.returns-then-not-goes_on-clause-ok
returns-then-not-goes_on-clause-ok c = λ n p stands strict defined.
    comes_to_end (text_of p) c.args.steps c.loop-left.left c.in_ok-stepped.stepped c.args.state.now c.loop-left.state c.step.new.state c.args.choices.now c.loop-left.choices c.step.new.choices
    c.loop-left-test.true (c.loop-left.invariant.goes n p stands strict defined) (sym c.goes_on.ensures ∙ c.if-not-goes_on.true) (c.in_ok-stepped.ensures.ok n p stands strict defined)

pub returns-clause-ok : goal.returns-clause-ok
returns-clause-ok c = λ n p stands strict defined.
    all_done (text_of p) c.args.steps c.loop-left.left c.args.state.now c.loop-left.state c.args.choices.now c.loop-left.choices
    (omega (arith, c.loop-left-test.false)) (c.loop-left.invariant.goes n p stands strict defined)

pub returns-in_err-stepped-clause-err : goal.returns-in_err-stepped-clause-err
returns-in_err-stepped-clause-err c = where_wanting _ c.from_residual.result
    (λ n p stands strict defined.
    left_there (text_of p) c.args.steps c.loop-left.left c.args.state.now c.loop-left.state c.args.choices.now c.loop-left.choices c.step.new.choices
    c.loop-left-test.true c.loop-left.invariant.count (c.loop-left.invariant.went n p stands strict defined) c.in_err-stepped.ensures.err)
