use Rattle.cgrammar.proofs.numbers.Numbers.restore.Goals as goal

pub returns : goal.returns
returns c = rw (← c.self.view_is, ← c.others.view_is) c.restore.ensures
