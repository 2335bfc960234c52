use Rattle.std.proofs.Common.{◌∙◌}
use Rattle.tidying.proofs.Marked.{constant_found, constant_none}
use Rattle.tidying.proofs.values.is_constant_at.Goals as goal

pub returns-in-None : goal.returns-in-None
returns-in-None c = constant_none c.args.parts.now c.requires c.as_slice.result.now c.as_slice.ensures c.args.key c.get.result c.get.ensures.lookup c.in-None.is

pub returns-in-Some : goal.returns-in-Some
returns-in-Some c =
    c.is_constant.ensures ∙ constant_found c.args.parts.now c.requires c.as_slice.result.now c.as_slice.ensures c.args.key c.get.result c.in-Some.entry c.get.ensures.lookup c.in-Some.is
