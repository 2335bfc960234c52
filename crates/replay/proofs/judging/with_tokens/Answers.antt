use Rattle.replay.proofs.Told.{none_told}
use Rattle.replay.proofs.judging.with_tokens.Goals as goal

pub returns-in-None : goal.returns-in-None
returns-in-None c =
    rw c.with_names.ensures
    (none_told c.args.command.now c.args.t c.in-None.why _ c.in-None.is c.in_ok-items.ensures c.requires.short c.requires.tokens)
