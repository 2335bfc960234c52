use Rattle.verdicts.proofs.top.predator.Goals as goal

-- what is exactly true of the answer is so with its report
pub returns-in-Ok-clause-exactly : goal.returns-in-Ok-clause-exactly
returns-in-Ok-clause-exactly g c = λ file whole other words told content unread wanting refusal.
    rw c.delivered.ensures.shown ((c.in-Ok.ensures.exact file whole words told content (rw c.delivered.ensures.shown at unread)).only other refusal)

pub returns-in-Ok-clause-analysed : goal.returns-in-Ok-clause-analysed
returns-in-Ok-clause-analysed g c = λ file whole words told content unread wanting.
    rw c.delivered.ensures.shown (c.in-Ok.ensures.exact file whole words told content (rw c.delivered.ensures.shown at unread)).analysed
