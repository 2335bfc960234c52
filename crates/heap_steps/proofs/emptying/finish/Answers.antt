use Rattle.std.proofs.Common.{List, ℕ, subst}
use Rattle.changes.specs.Posted.{IsPost}
use Rattle.heap_steps.specs.Posts.{finish_post}
use Rattle.heap_steps.proofs.Answered.{SaysFinished, says_finished}
use Rattle.heap_steps.proofs.emptying.finish.Goals as goal

pub returns-in-Ok-clause-post : goal.returns-in-Ok-clause-post
returns-in-Ok-clause-post c = subst (λ (gone : List ℕ). IsPost (finish_post c.args.graph.now gone) c.in-Ok.post) c.as_slice.ensures c.in-Ok.ensures.post

pub returns-in-Ok-clause-sound : goal.returns-in-Ok-clause-sound
returns-in-Ok-clause-sound c =
    (subst (λ (gone : List ℕ). SaysFinished gone c.args.graph.now c.in-Ok.post) c.as_slice.ensures (says_finished c.as_slice.result.now c.args.graph.now c.in-Ok.post c.finished.ensures.graph c.in-Ok.ensures.post)).sound

pub returns-in-Ok-clause-exact : goal.returns-in-Ok-clause-exact
returns-in-Ok-clause-exact c =
    (subst (λ (gone : List ℕ). SaysFinished gone c.args.graph.now c.in-Ok.post) c.as_slice.ensures (says_finished c.as_slice.result.now c.args.graph.now c.in-Ok.post c.finished.ensures.graph c.in-Ok.ensures.post)).exact

pub returns-in-Ok-clause-kinds : goal.returns-in-Ok-clause-kinds
returns-in-Ok-clause-kinds c =
    (subst (λ (gone : List ℕ). SaysFinished gone c.args.graph.now c.in-Ok.post) c.as_slice.ensures (says_finished c.as_slice.result.now c.args.graph.now c.in-Ok.post c.finished.ensures.graph c.in-Ok.ensures.post)).kinds
