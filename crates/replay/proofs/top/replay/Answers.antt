use Rattle.std.proofs.Common.{◌∙◌, sym}
use Rattle.replay.proofs.Files.{is_verdict}
use Rattle.replay.proofs.OneVerdict.{exactly_one, fault_of_file}
use Rattle.replay.proofs.top.replay.Goals as goal

-- what is true of the bytes of both files is exactly so
pub returns-in-Ok-clause-exactly : goal.returns-in-Ok-clause-exactly
returns-in-Ok-clause-exactly g c = λ command whole second other words told content choices unread wanting verdict.
    let e = c.in-Ok.ensures in
    let shown = c.delivered.ensures.shown in
    let known = is_verdict c.in-Ok.plan.shown.answer (λ is. let both = sym (e.usage_only is) ∙ words in absurd cc) (rw shown at unread) e.known in
    let exact = exactly_one c.one_token_list.ensures.list c.one_token_list.ensures.place c.one_token_list.ensures.never_both c.one_item_list.ensures
    c.items_have_one_answer.ensures c.text_has_one_list.ensures command whole second _ _ _ _ _ told content choices known (e.judged command words) in
    rw shown (exact.only other verdict)

-- where FILE is refused, a fault is one of FILE
pub returns-in-Ok-clause-unopened : goal.returns-in-Ok-clause-unopened
returns-in-Ok-clause-unopened g c = λ command whole second other words told content alone judged fault.
    let shown = c.delivered.ensures.shown in
    fault_of_file c.one_token_list.ensures.list c.one_token_list.ensures.place c.one_token_list.ensures.never_both c.one_item_list.ensures
    c.items_have_one_answer.ensures c.text_has_one_list.ensures command whole second _ _ _ _ other told content alone judged (rw shown at fault)
    (c.in-Ok.ensures.begun command words)
