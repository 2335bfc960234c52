use Rattle.std.proofs.Common.{◌≡◌, true, pos, sym, ◌∙◌, ap, subst}
use Rattle.std.specs.Prelude.{is_ok}
use Rattle.std.proofs.lemmas.Bool.{false≢true}
use Rattle.graph.specs.declared.value.Target.{Target}
use Rattle.graph.specs.declared.value.Value.TheVariants.{Address}
use Rattle.graph.specs.WellFormed.{is_within_limits, leads_to_object}
use Rattle.materialise.specs.SplitFirst.{split_first}
use Rattle.materialise.specs.SplitLast.{split_last}
use Rattle.settle.specs.Parted.{is_beyond}
use Rattle.settle.specs.Settled.{cases_at}
use Rattle.settle.proofs.Beyond.{first_beyond, last_beyond, within_unless, large_both, large_none}
use Rattle.settle.proofs.Case.{first_there, last_there}
use Rattle.settle.proofs.cases.cases_at.Goals as goal

pub returns-in-Ok-clause-within : goal.returns-in-Ok-clause-within
returns-in-Ok-clause-within c =
    let there = first_there c.args.graph.now c.args.object (pos 0) (subst (λ (target : Target). leads_to_object c.args.graph.now (Address c.args.object (pos 0) target) ≡ true) c.in-First.is c.requires.leads) in
    within_unless _ _ (is_beyond (cases_at c.args.graph.now c.args.object c.args.target)) (is_within_limits (split_first c.args.object c.args.graph.now))
    (ap (λ (target : Target). is_beyond (cases_at c.args.graph.now c.args.object target)) c.in-First.is ∙ first_beyond c.args.graph.now c.requires.graph c.args.object there)
    c.first_node.ensures.large.1 (λ same. false≢true (sym (ap is_ok (sym c.in-Ok.is ∙ same))))

pub returns-in-Ok-last_node-clause-within : goal.returns-in-Ok-last_node-clause-within
returns-in-Ok-last_node-clause-within c =
    let there = last_there c.args.graph.now c.args.object (pos 0) (subst (λ (target : Target). leads_to_object c.args.graph.now (Address c.args.object (pos 0) target) ≡ true) c.in-Last.is c.requires.leads) in
    within_unless _ _ (is_beyond (cases_at c.args.graph.now c.args.object c.args.target)) (is_within_limits (split_last c.args.object c.args.graph.now))
    (ap (λ (target : Target). is_beyond (cases_at c.args.graph.now c.args.object target)) c.in-Last.is ∙ last_beyond c.args.graph.now c.requires.graph c.args.object there)
    c.last_node.ensures.large.1 (λ same. false≢true (sym (ap is_ok (sym c.in-Ok-last_node.is ∙ same))))

pub returns-in-Ok-clause-large : goal.returns-in-Ok-clause-large
returns-in-Ok-clause-large c =
    let there = first_there c.args.graph.now c.args.object (pos 0) (subst (λ (target : Target). leads_to_object c.args.graph.now (Address c.args.object (pos 0) target) ≡ true) c.in-First.is c.requires.leads) in
    large_none _ (is_beyond (cases_at c.args.graph.now c.args.object c.args.target))
    (within_unless _ _ (is_beyond (cases_at c.args.graph.now c.args.object c.args.target)) (is_within_limits (split_first c.args.object c.args.graph.now))
    (ap (λ (target : Target). is_beyond (cases_at c.args.graph.now c.args.object target)) c.in-First.is ∙ first_beyond c.args.graph.now c.requires.graph c.args.object there)
    c.first_node.ensures.large.1 (λ same. false≢true (sym (ap is_ok (sym c.in-Ok.is ∙ same)))))

pub returns-in-Err-clause-large : goal.returns-in-Err-clause-large
returns-in-Err-clause-large c =
    let there = first_there c.args.graph.now c.args.object (pos 0) (subst (λ (target : Target). leads_to_object c.args.graph.now (Address c.args.object (pos 0) target) ≡ true) c.in-First.is c.requires.leads) in
    large_both c.in-Err.stop c.first_node.result (is_beyond (cases_at c.args.graph.now c.args.object c.args.target)) (is_within_limits (split_first c.args.object c.args.graph.now))
    (ap (λ (target : Target). is_beyond (cases_at c.args.graph.now c.args.object target)) c.in-First.is ∙ first_beyond c.args.graph.now c.requires.graph c.args.object there)
    c.in-Err.is c.first_node.ensures.large

pub returns-in-Ok-last_node-clause-large : goal.returns-in-Ok-last_node-clause-large
returns-in-Ok-last_node-clause-large c =
    let there = last_there c.args.graph.now c.args.object (pos 0) (subst (λ (target : Target). leads_to_object c.args.graph.now (Address c.args.object (pos 0) target) ≡ true) c.in-Last.is c.requires.leads) in
    large_none _ (is_beyond (cases_at c.args.graph.now c.args.object c.args.target))
    (within_unless _ _ (is_beyond (cases_at c.args.graph.now c.args.object c.args.target)) (is_within_limits (split_last c.args.object c.args.graph.now))
    (ap (λ (target : Target). is_beyond (cases_at c.args.graph.now c.args.object target)) c.in-Last.is ∙ last_beyond c.args.graph.now c.requires.graph c.args.object there)
    c.last_node.ensures.large.1 (λ same. false≢true (sym (ap is_ok (sym c.in-Ok-last_node.is ∙ same)))))

pub returns-in-Err-last_node-clause-large : goal.returns-in-Err-last_node-clause-large
returns-in-Err-last_node-clause-large c =
    let there = last_there c.args.graph.now c.args.object (pos 0) (subst (λ (target : Target). leads_to_object c.args.graph.now (Address c.args.object (pos 0) target) ≡ true) c.in-Last.is c.requires.leads) in
    large_both c.in-Err-last_node.stop c.last_node.result (is_beyond (cases_at c.args.graph.now c.args.object c.args.target)) (is_within_limits (split_last c.args.object c.args.graph.now))
    (ap (λ (target : Target). is_beyond (cases_at c.args.graph.now c.args.object target)) c.in-Last.is ∙ last_beyond c.args.graph.now c.requires.graph c.args.object there)
    c.in-Err-last_node.is c.last_node.ensures.large
