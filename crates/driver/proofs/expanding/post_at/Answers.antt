use Rattle.std.proofs.Common.{refl}
use Rattle.driver.proofs.Followed.{asked_there, entry_there, post_told, stop_told}
use Rattle.driver.proofs.expanding.post_at.Goals as goal

pub post-requires-clause-fits : goal.post-requires-clause-fits
post-requires-clause-fits c = asked_there c.args.flow.now c.args.limits.now c.args.trail.now c.args.at c.args.point c.args.number c.args.edge.now c.in-Some.entry.now c.requires.is c.requires.stands c.requires.leads
    (entry_there c.args.trail.now c.args.trail.now c.args.at c.in-Some.entry.now refl c.in-Some.ensures.lookup.3.0 c.in-Some.ensures.lookup.1)

pub returns-in-Ok-left_post-clause-is : goal.returns-in-Ok-left_post-clause-is
returns-in-Ok-left_post-clause-is c = post_told c.args.flow.now c.args.trail.now c.args.at c.args.number c.args.edge.now c.in-Some.entry.now c.in-Ok.whole c.in-Ok-left_post.post c.requires.stands
    (entry_there c.args.trail.now c.args.trail.now c.args.at c.in-Some.entry.now refl c.in-Some.ensures.lookup.3.0 c.in-Some.ensures.lookup.1) c.in-Ok.ensures.post c.in-Ok.ensures.means c.in-Ok.ensures.fits
    c.in-Ok-left_post.ensures

pub returns-in-Err-Large-clause-stop : goal.returns-in-Err-Large-clause-stop
returns-in-Err-Large-clause-stop c = stop_told c.args.trail.now c.args.at c.in-Some.entry.now c.stop_of.result
    (entry_there c.args.trail.now c.args.trail.now c.args.at c.in-Some.entry.now refl c.in-Some.ensures.lookup.3.0 c.in-Some.ensures.lookup.1) c.stop_of.ensures
