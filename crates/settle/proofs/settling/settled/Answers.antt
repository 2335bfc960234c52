use Rattle.std.proofs.Common.{◌≡◌, true, false, List, [], ◌∷◌, Option, Err, sym, ◌∙◌, ap, subst}
use Rattle.std.specs.Prelude.{IfSome, flat_map}
use Rattle.std.specs.List.{All, list_any}
use Rattle.std.proofs.lemmas.List.Elements.{All-nil, All-cons}
use Rattle.std.proofs.lemmas.Result.{IfOk-weaker, IfErr-weaker}
use Rattle.cbase.specs.declared.stop.Stop.{Stop}
use Rattle.graph.specs.declared.parts.Parts.{Parts}
use Rattle.settle.specs.Parted.{AreParted}
use Rattle.settle.specs.Settled.{name_no_segment, settled, is_too_large}
use Rattle.settle.proofs.Loop.{top_none, top_beyond, top_large, top_settled, both_ok}
use Rattle.settle.proofs.settling.settled.Goals as goal

pub returns-in-Err-clause-large : goal.returns-in-Err-clause-large
returns-in-Err-clause-large c = λ is. top_beyond c.args.registers.now c.args.graph.now c.first_cases.ensures.graph (c.in-Err.ensures.large.0 (ap Err is))

pub returns-in-Ok-None-clause-ok : goal.returns-in-Ok-None-clause-ok
returns-in-Ok-None-clause-ok c =
    let none = top_none c.args.registers.now c.args.graph.now c.first_cases.ensures.graph (sym c.in-Ok-None.field-0-is ∙ c.in-Ok-None.ensures.ok) in
    IfOk-weaker c.copy_alone.result (λ (graphs : List Parts). graphs ≡ c.args.graph.now ∷ []) (λ graphs. graphs ≡ settled c.args.registers.now c.args.graph.now) (λ graphs is. is ∙ sym none.0) c.copy_alone.ensures.ok

pub returns-in-Ok-None-clause-names : goal.returns-in-Ok-None-clause-names
returns-in-Ok-None-clause-names c =
    let none = top_none c.args.registers.now c.args.graph.now c.first_cases.ensures.graph (sym c.in-Ok-None.field-0-is ∙ c.in-Ok-None.ensures.ok) in
    IfOk-weaker c.copy_alone.result (λ (graphs : List Parts). graphs ≡ c.args.graph.now ∷ []) (All (λ (graph : Parts). name_no_segment c.args.registers.now graph ≡ true))
    (λ graphs is. subst (All (λ (graph : Parts). name_no_segment c.args.registers.now graph ≡ true)) (sym is)
    (All-cons (λ (graph : Parts). name_no_segment c.args.registers.now graph ≡ true) c.args.graph.now [] none.2 (All-nil (λ (graph : Parts). name_no_segment c.args.registers.now graph ≡ true)))) c.copy_alone.ensures.ok

pub returns-in-Ok-None-clause-within : goal.returns-in-Ok-None-clause-within
returns-in-Ok-None-clause-within c =
    let none = top_none c.args.registers.now c.args.graph.now c.first_cases.ensures.graph (sym c.in-Ok-None.field-0-is ∙ c.in-Ok-None.ensures.ok) in
    IfOk-weaker c.copy_alone.result (λ (graphs : List Parts). graphs ≡ c.args.graph.now ∷ []) (λ graphs. is_too_large c.args.registers.now c.args.graph.now ≡ false) (λ graphs is. none.1) c.copy_alone.ensures.ok

pub returns-in-Ok-Some-clause-ok : goal.returns-in-Ok-Some-clause-ok
returns-in-Ok-Some-clause-ok c =
    both_ok c.cases_settled.result (λ (graphs : List Parts). graphs ≡ flat_map (settled c.args.registers.now) c.in-Ok-Some.cases) (λ graphs. list_any (is_too_large c.args.registers.now) c.in-Ok-Some.cases ≡ false)
    (λ graphs. graphs ≡ settled c.args.registers.now c.args.graph.now) c.cases_settled.ensures.ok c.cases_settled.ensures.within
    (λ graphs is few. is ∙ top_settled c.args.registers.now c.args.graph.now c.first_cases.ensures.graph c.in-Ok-Some.cases (sym c.in-Ok-Some.field-0-is ∙ c.in-Ok-Some.ensures.ok) c.in-Ok-Some.ensures.within few)

pub returns-in-Ok-Some-clause-means : goal.returns-in-Ok-Some-clause-means
returns-in-Ok-Some-clause-means c =
    let own = subst (λ (found : Option (List Parts)). IfSome found (AreParted c.args.graph.now)) c.in-Ok-Some.field-0-is c.in-Ok-Some.ensures.parted in
    IfOk-weaker c.cases_settled.result (λ (graphs : List Parts). (parts : Parts) → AreParted parts c.in-Ok-Some.cases → AreParted parts graphs) _ (λ graphs onward. (onward c.args.graph.now own).means) c.cases_settled.ensures.parted

pub returns-in-Ok-Some-clause-holds : goal.returns-in-Ok-Some-clause-holds
returns-in-Ok-Some-clause-holds c =
    let own = subst (λ (found : Option (List Parts)). IfSome found (AreParted c.args.graph.now)) c.in-Ok-Some.field-0-is c.in-Ok-Some.ensures.parted in
    IfOk-weaker c.cases_settled.result (λ (graphs : List Parts). (parts : Parts) → AreParted parts c.in-Ok-Some.cases → AreParted parts graphs) _ (λ graphs onward. (onward c.args.graph.now own).holds) c.cases_settled.ensures.parted

pub returns-in-Ok-Some-clause-within : goal.returns-in-Ok-Some-clause-within
returns-in-Ok-Some-clause-within c =
    IfOk-weaker c.cases_settled.result (λ (graphs : List Parts). list_any (is_too_large c.args.registers.now) c.in-Ok-Some.cases ≡ false) (λ graphs. is_too_large c.args.registers.now c.args.graph.now ≡ false)
    (λ graphs few. top_large c.args.registers.now c.args.graph.now c.first_cases.ensures.graph c.in-Ok-Some.cases (sym c.in-Ok-Some.field-0-is ∙ c.in-Ok-Some.ensures.ok) c.in-Ok-Some.ensures.within ∙ few) c.cases_settled.ensures.within

pub returns-in-Ok-Some-clause-large : goal.returns-in-Ok-Some-clause-large
returns-in-Ok-Some-clause-large c =
    IfErr-weaker c.cases_settled.result (λ stop. stop ≡ Stop.Large → list_any (is_too_large c.args.registers.now) c.in-Ok-Some.cases ≡ true) (λ stop. stop ≡ Stop.Large → is_too_large c.args.registers.now c.args.graph.now ≡ true)
    (λ stop large is. top_large c.args.registers.now c.args.graph.now c.first_cases.ensures.graph c.in-Ok-Some.cases (sym c.in-Ok-Some.field-0-is ∙ c.in-Ok-Some.ensures.ok) c.in-Ok-Some.ensures.within ∙ large is) c.cases_settled.ensures.large
