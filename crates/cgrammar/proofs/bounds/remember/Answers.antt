use Rattle.cgrammar.proofs.Bounded.{remembers_put}
use Rattle.cgrammar.proofs.bounds.remember.Goals as goal

pub returns-clause-noted : goal.returns-clause-noted
returns-clause-noted c =
    remembers_put c.put.result c.args.earlier.now.items c.args.at c.args.name.now c.args.bound c.put.new.self c.index_mut.result.now
    c.requires c.index_mut.ensures.value c.put.ensures.ok c.put.ensures.err
