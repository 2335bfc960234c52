-- Where there are more arguments than parameters, what stands behind the parameters is not known.
use Rattle.std.proofs.Common.{ℕ, ◌≤◌, length, refl, subst}
use Rattle.c_run.proofs.tasks.MakingRoom.{on_ok}
use Rattle.c_run.proofs.tasks.EachArgument.{behind_params}
use Rattle.c_text.specs.Parameters.{types_by}
use Rattle.c_run.proofs.tasks.arguments.arguments.Goals as goal

pub returns-then-args-count : goal.returns-then-args-count
returns-then-args-count c = on_ok _ _ c.converted.result
    (λ room made. λ n p stands. made n p stands
    (subst (λ (count : ℕ). length c.args.args.now ≤ count) (c.parameter_count-count.ensures n p stands) c.if-args-count.true))
    c.converted.ensures

pub returns : goal.returns
returns c = on_ok _ _ c.converted-2.result
    (λ room made. λ n p stands.
    behind_params p c.args.args.now (types_by n p c.args.params) c.parameter_count-count.result room c.args.state.now c.do_first.new.self c.converted-2.new.state
    (c.parameter_count-count.ensures n p stands) c.if-args-count.false (c.in_ok-do_first.ensures.ok, refl) (made n p stands))
    c.converted-2.ensures
