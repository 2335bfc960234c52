use Rattle.graph.specs.declared.post.Post.{Post}
use Rattle.changes.proofs.Led.{if_ok}
use Rattle.reinterpret.proofs.WriteMeans.{write_means, write_listed}
use Rattle.reinterpret.proofs.writes.write.Goals as goal

pub returns-clause-means : goal.returns-clause-means
returns-clause-means c =
    if_ok c.write_by.result (λ (post : Post) is. write_means c.args.graph.now c.args.at c.args.size c.args.from post c.registers-registers.ensures.graph c.requires.address c.requires.value is) c.write_by.ensures

pub returns-clause-listed : goal.returns-clause-listed
returns-clause-listed c =
    if_ok c.write_by.result (λ (post : Post) is. write_listed c.args.graph.now c.args.at c.args.size c.args.from post c.registers-registers.ensures.graph c.requires.address c.requires.value is) c.write_by.ensures
