-- A finished visit leaves what `Turns` says.
use Rattle.std.proofs.Common.{rules}
use Rattle.flow.proofs.Steps.{finished_all, finished_one}
use Rattle.flow.proofs.counting.finish.Goals as goal

pub returns-in-None : goal.returns-in-None
returns-in-None c edges =
    finished_all edges _ _ _ _ _ c.requires.end (search rules) c.capped_sum-number.ensures

pub returns-in-Some : goal.returns-in-Some
returns-in-Some c edges =
    finished_one edges _ _ _ _ _ _ c.requires.end c.requires.inside (search rules) c.capped_sum-number.ensures
