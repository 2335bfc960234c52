use Rattle.graph.specs.declared.post.Post.{Post}
use Rattle.changes.proofs.Led.{if_ok}
use Rattle.reinterpret.proofs.ReadMeans.{read_means, read_listed}
use Rattle.reinterpret.proofs.reads.read.Goals as goal

pub returns-clause-means : goal.returns-clause-means
returns-clause-means c =
    if_ok c.read_by.result (λ (post : Post) is. read_means c.args.graph.now c.registers-registers.ensures.graph c.args.at c.args.size c.args.pointer c.args.into c.requires.address c.requires.size c.requires.whole post is) c.read_by.ensures

pub returns-clause-listed : goal.returns-clause-listed
returns-clause-listed c =
    if_ok c.read_by.result (λ (post : Post) is. read_listed c.args.graph.now c.registers-registers.ensures.graph c.args.at c.args.size c.args.pointer c.args.into c.requires.address c.requires.size c.requires.whole post is) c.read_by.ensures
