-- What is found of the items from the beginning of a text is what is answered of them.
use Rattle.std.proofs.Common.{◌∙◌, ap, List}
use Rattle.ctokens.specs.declared.item_span.ItemSpan.{ItemSpan}
use Rattle.ccheck.specs.Needed.{spans_of}
use Rattle.ccheck.proofs.Answered.{typed_from, refused_from}
use Rattle.ccheck.proofs.checking.answer_of_items.Goals as goal

pub returns-in-AllPass : goal.returns-in-AllPass
returns-in-AllPass c = typed_from c.args.t.now c.args.items.now c.args.numbers.now c.args.abi c.args.strict c.in_ok-context.context c.check_items.new.context
    c.as_slice-6.result.now c.as_slice-3.result.now c.as_slice-4.result.now c.c_finds_what_contexts_find.ensures
    (c.as_slice-6.ensures ∙ (c.in_ok-spans.ensures ∙ ap (λ (all : List ItemSpan). spans_of all c.args.numbers.now) c.as_slice.ensures))
    (c.as_slice-3.ensures ∙ c.in_ok-found.ensures.bodied) (c.as_slice-4.ensures ∙ c.in_ok-found.ensures.defined)
    c.in_ok-context.ensures c.leads_back.ensures c.in-AllPass.program _ c.in-AllPass.is c.in_ok-checked.ensures

pub returns : goal.returns
returns c = refused_from c.args.t.now c.args.items.now c.args.numbers.now c.args.abi c.args.strict c.in_ok-context.context c.check_items.new.context
    c.as_slice-6.result.now c.as_slice-3.result.now c.as_slice-4.result.now c.c_finds_what_contexts_find.ensures
    (c.as_slice-6.ensures ∙ (c.in_ok-spans.ensures ∙ ap (λ (all : List ItemSpan). spans_of all c.args.numbers.now) c.as_slice.ensures))
    (c.as_slice-3.ensures ∙ c.in_ok-found.ensures.bodied) (c.as_slice-4.ensures ∙ c.in_ok-found.ensures.defined)
    c.in_ok-context.ensures c.leads_back.ensures c.in-FirstRefused.refusal _ c.in-FirstRefused.is c.in_ok-checked.ensures
