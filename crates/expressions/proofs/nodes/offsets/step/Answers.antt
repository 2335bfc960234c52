use Rattle.std.proofs.Common.{◌≡◌, ℕ, ◌+◌, List, ◌∷◌, length, drop, get_or, sym, ap, ◌∙◌, subst, arith}
use Rattle.std.proofs.lemmas.List.{drop_more}
use Rattle.std.proofs.lemmas.Result.{IfOk-weaker}
use Rattle.cbase.specs.declared.tree.expr.ExprForm.TheOpen.{Part::Member as NamedStep, At as IndexedStep}
use Rattle.cbase.specs.declared.tree.expr.ExprForm.TheViews.{out-Part, outs-Part::Member, outs-At}
use Rattle.typing.specs.Forms.{Step}
use Rattle.typing.specs.Pieces.{index_in}
use Rattle.expressions.specs.Ways.{LeadsOn}
use Rattle.expressions.proofs.Stepping.{step_alike}
use Rattle.expressions.proofs.nodes.offsets.step.Goals as goal

pub returns-in-Member-clause-is : goal.returns-in-Member-clause-is
returns-in-Member-clause-is c abi n path agrees =
    let structs = c.args.context.now.structs in
    let indices : List ℕ = c.args.indices.now in
    let rest : List ℕ = drop c.args.from.indices indices in
    let is : out-Part c.args.part.now ≡ NamedStep c.in-Member.name = ap out-Part c.in-Member.is ∙ outs-Part::Member c.in-Member.name in
    step_alike (LeadsOn abi structs c.args.word n path rest) _ (LeadsOn abi structs c.args.word n (NamedStep c.in-Member.name ∷ path) rest c.args.from) _ c.member_step.result
    (IfOk-weaker c.member_step.result _ _ (λ reached same way leads. subst (λ (at : ℕ). LeadsOn abi structs c.args.word n path (drop at indices) reached way) same leads) c.member_step.ensures.indices)
    (λ way leads. subst (λ (step : Step). LeadsOn abi structs c.args.word n (step ∷ path) rest c.args.from way) (sym is) leads)
    (c.member_step.ensures.is abi n path rest agrees)

pub returns-in-At-clause-is : goal.returns-in-At-clause-is
returns-in-At-clause-is c abi n path agrees =
    let structs = c.args.context.now.structs in
    let indices : List ℕ = c.args.indices.now in
    let from = c.args.from in
    let rest : List ℕ = drop (from.indices + 1) indices in
    let index : ℕ = get_or indices from.indices 0 in
    let is : out-Part c.args.part.now ≡ IndexedStep c.in-At.field-0 = ap out-Part c.in-At.is ∙ outs-At c.in-At.field-0 in
    let next : drop from.indices indices ≡ index ∷ rest = drop_more indices from.indices 0 (omega (arith, ap (λ (step : Step). length (index_in step)) is)) in
    step_alike (LeadsOn abi structs c.args.word n path rest) _ (LeadsOn abi structs c.args.word n (IndexedStep c.in-At.field-0 ∷ path) (index ∷ rest) from) _ c.item_step.result
    (IfOk-weaker c.item_step.result _ _ (λ reached same way leads. subst (λ (at : ℕ). LeadsOn abi structs c.args.word n path (drop at indices) reached way) same leads) c.item_step.ensures.indices)
    (λ way leads.
    subst (λ (step : Step). LeadsOn abi structs c.args.word n (step ∷ path) (drop from.indices indices) from way) (sym is)
    (subst (λ (left : List ℕ). LeadsOn abi structs c.args.word n (IndexedStep c.in-At.field-0 ∷ path) left from way) (sym next) leads))
    (c.item_step.ensures.is abi n c.in-At.field-0 path rest agrees)

pub member_step-requires : goal.member_step-requires
member_step-requires c = c.requires.ctype

pub item_step-requires-clause-ctype : goal.item_step-requires-clause-ctype
item_step-requires-clause-ctype c = c.requires.ctype

pub returns-in-Member-clause-below : goal.returns-in-Member-clause-below
returns-in-Member-clause-below c = c.member_step.ensures.below

pub returns-in-At-clause-below : goal.returns-in-At-clause-below
returns-in-At-clause-below c = c.item_step.ensures.below

pub returns-in-Member-clause-indices : goal.returns-in-Member-clause-indices
returns-in-Member-clause-indices c =
    let none : length (index_in (out-Part c.args.part.now)) ≡ 0 = ap (λ (step : Step). length (index_in step)) (ap out-Part c.in-Member.is ∙ outs-Part::Member c.in-Member.name) in
    IfOk-weaker c.member_step.result _ _ (λ reached same. omega (arith, same, none)) c.member_step.ensures.indices

pub returns-in-At-clause-indices : goal.returns-in-At-clause-indices
returns-in-At-clause-indices c =
    let one : length (index_in (out-Part c.args.part.now)) ≡ 1 = ap (λ (step : Step). length (index_in step)) (ap out-Part c.in-At.is ∙ outs-At c.in-At.field-0) in
    IfOk-weaker c.item_step.result _ _ (λ reached same. omega (arith, same, one)) c.item_step.ensures.indices

pub bounds-indices-from : goal.bounds-indices-from
bounds-indices-from c = omega (arith, c.requires.indices, ap (λ (step : Step). length (index_in step)) (ap out-Part c.in-At.is ∙ outs-At c.in-At.field-0))
