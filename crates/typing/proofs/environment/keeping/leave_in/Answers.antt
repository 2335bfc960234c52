use Rattle.typing.proofs.environment.KeptRight.{left_at, scopes_left}
use Rattle.typing.proofs.environment.keeping.leave_in.Goals as goal

pub returns-in-Some-clause-kept : goal.returns-in-Some-clause-kept
returns-in-Some-clause-kept g c =
    left_at c.args.visible.now c.uncover.new.visible c.args.levels.now.items c.pop.new.self.items c.in-Some.level c.requires c.in-Some.ensures.items c.uncover.ensures

pub returns-in-Some-clause-left : goal.returns-in-Some-clause-left
returns-in-Some-clause-left g c = scopes_left c.args.levels.now.items c.pop.new.self.items c.in-Some.level c.in-Some.ensures.items
