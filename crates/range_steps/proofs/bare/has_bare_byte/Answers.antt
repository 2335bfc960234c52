use Rattle.std.proofs.Common.{◌∙◌}
use Rattle.range_steps.proofs.Untold.{one_out, all_out}
use Rattle.range_steps.proofs.bare.has_bare_byte.Goals as goal

pub loop-left-preserved : goal.loop-left-preserved
loop-left-preserved c =
    let out = one_out c.loop-left.left.now c.args.plane.now c.loop-left.taken c.fill.new.self c.args.from c.args.count _ c.in-len1-up.len_at_least c.loop-left.invariant.inside c.loop-left.invariant.long c.fill.ensures in record {
      same = out.same ∙ c.loop-left.invariant.same;
      long = out.long;
      inside = out.inside;
    }

pub returns : goal.returns
returns c =
    all_out c.args.edges.now c.loop-left.left.now c.args.plane.now c.loop-left.taken c.args.from c.args.count c.all_are.result c.in_default.len_below c.requires.range c.loop-left.invariant.long c.all_are.ensures c.loop-left.invariant.same
