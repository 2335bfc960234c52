use Rattle.graph.specs.declared.post.Post.{Post}
use Rattle.changes.proofs.Led.{if_ok}
use Rattle.reinterpret.proofs.EqualMeans.{equal_means, equal_is_sound, if_both}
use Rattle.reinterpret.proofs.equality.test_equal.Goals as goal

pub returns-clause-means : goal.returns-clause-means
returns-clause-means c =
    if_both c.test_by.result (λ (post : Post) is room. equal_means c.args.graph.now c.args.left c.args.right c.args.same post c.registers-registers.ensures.graph c.requires.values is room) c.test_by.ensures.post c.test_by.ensures.room

pub returns-clause-sound : goal.returns-clause-sound
returns-clause-sound c =
    if_ok c.test_by.result (λ (post : Post) is. equal_is_sound c.args.graph.now c.args.left c.args.right c.args.same post c.registers-registers.ensures.graph c.requires.values is) c.test_by.ensures.post
