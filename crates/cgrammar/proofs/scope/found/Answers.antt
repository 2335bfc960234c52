use Rattle.std.proofs.Common.{◌∙◌, ap, sym, ◌-◌, arith}
use Rattle.cgrammar.specs.Scope.{first_answer, found}
use Rattle.std.specs.Prelude.{take, Option, Bool}
use Rattle.cgrammar.proofs.Scopes.{found-step, answer-none, answer-some}
use Rattle.cgrammar.proofs.scope.found.Goals as goal

pub returns-then-is_some : goal.returns-then-is_some
returns-then-is_some c =
    let step = found-step c.args.name.now c.args.sets.now c.loop-left.left c.index-sets-left.result (omega arith) c.loop-left.invariant.1 c.index-sets-left.is c.loop-left.invariant.0 in
    let rest : Option Bool = found c.args.name.now (take (c.loop-left.left - 1) c.args.sets.now) in
    sym (step ∙ (ap (λ (o : Option Bool). first_answer o rest) (sym c.found-answer.ensures) ∙ answer-some c.found-answer.result rest (sym c.is_some.ensures ∙ c.if-is_some.true)))

pub loop-left-preserved : goal.loop-left-preserved
loop-left-preserved c =
    let step = found-step c.args.name.now c.args.sets.now c.loop-left.left c.index-sets-left.result (omega arith) c.loop-left.invariant.1 c.index-sets-left.is c.loop-left.invariant.0 in
    let rest : Option Bool = found c.args.name.now (take (c.loop-left.left - 1) c.args.sets.now) in
    (step ∙ (ap (λ (o : Option Bool). first_answer o rest) (sym c.found-answer.ensures) ∙ answer-none c.found-answer.result rest (sym c.is_some.ensures ∙ c.if-is_some.false)), omega arith)
