use Rattle.std.proofs.Common.{refl}
use Rattle.transfer.specs.Along.{is_full}
use Rattle.transfer.specs.Fitting.{MayFollow}
use Rattle.transfer.proofs.PostsTogether.{posts_next, all_next, some_next, posts_done}
use Rattle.transfer.proofs.along.put_posts.Goals as goal

pub loop-left-preserved : goal.loop-left-preserved
loop-left-preserved c = record {
  known = posts_next c.args.flow.now c.args.point c.args.instr.now c.loop-left.left.now c.args.graphs.now c.loop-left.posts c.put_post.new.posts c.first-item.result _ _ c.in-len1-up.len_at_least refl c.first-item.is
      c.loop-left.invariant.known c.in_ok-put_post.ensures.one;
  may = all_next c.args.flow.now c.args.point c.args.instr.now (MayFollow c.args.flow.now c.args.point c.args.instr.now) c.loop-left.left.now _ c.in-len1-up.len_at_least refl c.loop-left.invariant.may;
  full = λ some. c.loop-left.invariant.full (some_next c.args.flow.now c.args.point c.args.instr.now (is_full c.args.instr.now) c.loop-left.left.now _ c.in-len1-up.len_at_least refl some);
}

pub returns-clause-are : goal.returns-clause-are
returns-clause-are c = posts_done c.args.flow.now c.args.point c.args.instr.now c.loop-left.left.now c.args.graphs.now c.loop-left.posts c.in_default.len_below c.loop-left.invariant.known
