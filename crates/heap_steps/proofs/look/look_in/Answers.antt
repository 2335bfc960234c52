use Rattle.std.proofs.Common.{true, false, sym, ◌∙◌}
use Rattle.std.proofs.lemmas.Bool.{false≢true}
use Rattle.heap_steps.specs.Looking.{looked, looked_by}
use Rattle.heap_steps.proofs.Answered.{looked_none, looked_some, post_is}
use Rattle.heap_steps.proofs.look.look_in.Goals as goal

pub returns-then-none : goal.returns-then-none
returns-then-none c =
    post_is (looked_by c.args.graph false false) (looked c.args.graph) c.with_graph-all.result
    (sym (looked_none c.args.graph (sym c.in_ok-lost.ensures.list ∙ c.is_empty-none.ensures.0 c.if-none.true) c.requires.graph)) c.with_graph-all.ensures

pub returns-then-anywhere : goal.returns-then-anywhere
returns-then-anywhere c =
    post_is (looked_by c.args.graph true true) (looked c.args.graph) c.with_graph-some.result
    (sym (looked_some c.args.graph true (λ none. false≢true (sym c.if-none.false ∙ c.is_empty-none.ensures.1 (c.in_ok-lost.ensures.list ∙ none))) (sym c.in_ok-anywhere.ensures ∙ c.if-anywhere.true)))
    c.with_graph-some.ensures

pub returns : goal.returns
returns c =
    post_is (looked_by c.args.graph true false) (looked c.args.graph) c.without_graph-fault.result
    (sym (looked_some c.args.graph false (λ none. false≢true (sym c.if-none.false ∙ c.is_empty-none.ensures.1 (c.in_ok-lost.ensures.list ∙ none))) (sym c.in_ok-anywhere.ensures ∙ c.if-anywhere.false)))
    c.without_graph-fault.ensures
