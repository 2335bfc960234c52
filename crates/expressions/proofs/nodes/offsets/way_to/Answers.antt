use Rattle.std.proofs.Common.{refl, ◌≡◌, ◌-◌, List, ◌∷◌, drop, take, map, length, sym, ap, ◌∙◌, subst, arith}
use Rattle.cbase.specs.declared.tree.expr.ExprForm.TheOpen.{Part::Member as NamedStep, At as IndexedStep}
use Rattle.cbase.specs.declared.tree.expr.ExprForm.TheViews.{out-Part, outs-Part::Member, outs-At}
use Rattle.cbase.specs.declared.tree.expr.Part.{Part}
use Rattle.typing.specs.Forms.{Step}
use Rattle.typing.specs.Paths.{Leads, LeadsFrom, FromItem, Stops}
use Rattle.typing.specs.Pieces.{index_in}
use Rattle.expressions.specs.Ways.{way_of}
use Rattle.expressions.proofs.Stepping.{no_parts, first_and_rest, rest_counted}
use Rattle.expressions.proofs.nodes.offsets.way_to.Goals as goal

pub returns-in-empty : goal.returns-in-empty
returns-in-empty c abi n agrees =
    no_parts abi c.args.context.now.structs c.args.word (n.ctype c.args.ctype) c.args.path.now c.args.indices.now c.in-empty.len_below c.requires.indices

pub returns-in-Ok : goal.returns-in-Ok
returns-in-Ok c abi n agrees =
    let path : List Part = c.args.path.now in
    let rest : List Step = map out-Part (take (length path - 1) (drop 1 path)) in
    let is : out-Part c.first-item.result ≡ NamedStep c.in-Member.name = ap out-Part c.in-Member.is ∙ outs-Part::Member c.in-Member.name in
    let whole : NamedStep c.in-Member.name ∷ rest ≡ map out-Part path =
    ap (λ (step : Step). step ∷ rest) (sym is) ∙ first_and_rest path c.first-item.result c.in-len1-up.len_at_least c.first-item.is
    in
    subst (λ (steps : List Step). LeadsFrom abi c.args.context.now.structs c.args.word (n.ctype c.args.ctype) steps c.args.indices.now (way_of c.leads.result)) whole
    (c.in-Ok.ensures.is abi n rest c.args.indices.now agrees (way_of c.leads.result) (c.leads.ensures abi n agrees))

pub returns-in-Err : goal.returns-in-Err
returns-in-Err c abi n agrees =
    let path : List Part = c.args.path.now in
    let rest : List Step = map out-Part (take (length path - 1) (drop 1 path)) in
    let is : out-Part c.first-item.result ≡ NamedStep c.in-Member.name = ap out-Part c.in-Member.is ∙ outs-Part::Member c.in-Member.name in
    let whole : NamedStep c.in-Member.name ∷ rest ≡ map out-Part path =
    ap (λ (step : Step). step ∷ rest) (sym is) ∙ first_and_rest path c.first-item.result c.in-len1-up.len_at_least c.first-item.is
    in
    subst (λ (steps : List Step). LeadsFrom abi c.args.context.now.structs c.args.word (n.ctype c.args.ctype) steps c.args.indices.now (Stops c.in-Err.fault)) whole
    (c.in-Err.ensures.is abi n rest c.args.indices.now agrees)

pub returns-in-At : goal.returns-in-At
returns-in-At c abi n agrees =
    let path : List Part = c.args.path.now in
    let rest : List Step = map out-Part (take (length path - 1) (drop 1 path)) in
    let is : out-Part c.first-item.result ≡ IndexedStep c.in-At.field-0 = ap out-Part c.in-At.is ∙ outs-At c.in-At.field-0 in
    let whole : IndexedStep c.in-At.field-0 ∷ rest ≡ map out-Part path =
    ap (λ (step : Step). step ∷ rest) (sym is) ∙ first_and_rest path c.first-item.result c.in-len1-up.len_at_least c.first-item.is
    in
    let way = way_of c.leads-in-At.result in
    subst (λ (steps : List Step). LeadsFrom abi c.args.context.now.structs c.args.word (n.ctype c.args.ctype) steps c.args.indices.now way) whole
    (FromItem
    (subst (λ (steps : List Step). Leads abi c.args.context.now.structs c.args.word (n.ctype c.args.ctype) 0 steps c.args.indices.now way) (sym whole)
    (c.leads-in-At.ensures abi n agrees)))

pub first_step-requires : goal.first_step-requires
first_step-requires c = c.requires.ctype

pub leads-requires-in-At-clause-ctype : goal.leads-requires-in-At-clause-ctype
leads-requires-in-At-clause-ctype c = c.requires.ctype

pub leads-requires-in-At-clause-indices : goal.leads-requires-in-At-clause-indices
leads-requires-in-At-clause-indices c = c.requires.indices

pub leads-requires-in-At-clause-none : goal.leads-requires-in-At-clause-none
leads-requires-in-At-clause-none c = refl

pub leads-requires-clause-ctype : goal.leads-requires-clause-ctype
leads-requires-clause-ctype c = c.in-Ok.ensures.below

pub leads-requires-clause-none : goal.leads-requires-clause-none
leads-requires-clause-none c = c.in-Ok.ensures.indices

pub leads-requires-clause-indices : goal.leads-requires-clause-indices
leads-requires-clause-indices c =
    rest_counted c.args.path.now c.first-item.result (length c.args.indices.now) c.in-len1-up.len_at_least c.first-item.is
    (ap (λ (step : Step). length (index_in step)) (ap out-Part c.in-Member.is ∙ outs-Part::Member c.in-Member.name)) c.requires.indices

pub bounds-path-0 : goal.bounds-path-0
bounds-path-0 c = omega (arith, c.in-len1-up.len_at_least)

pub slice_bounds-rest-count : goal.slice_bounds-rest-count
slice_bounds-rest-count c = omega (arith, c.in-len1-up.len_at_least)

pub slice_bounds-rest-start : goal.slice_bounds-rest-start
slice_bounds-rest-start c = omega (arith, c.in-len1-up.len_at_least)

pub slice_bounds-rest-end : goal.slice_bounds-rest-end
slice_bounds-rest-end c = omega (arith, c.in-len1-up.len_at_least)
