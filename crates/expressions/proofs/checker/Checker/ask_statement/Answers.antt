use Rattle.typing.specs.Typing.{StatementIs}
use Rattle.expressions.specs.declared.part.Part.TheVariants.{Statement}
use Rattle.expressions.specs.Walked.{Says}
use Rattle.expressions.proofs.Telling.{may_ask, asked, of_nothing, nothing_of}
use Rattle.expressions.proofs.checker.Checker.ask_statement.Goals as goal

pub inner-requires : goal.inner-requires
inner-requires g c = may_ask c.args.self.now.abi c.args.self.now.depth c.requires.nests (Statement c.args.stmt) c.requires.deep _ tt

pub nothing_in-requires : goal.nothing_in-requires
nothing_in-requires g c = of_nothing (Says c.args.self.now.abi (StatementIs c.args.stmt.now)) c.args.context.now _ c.inner.result (asked c.args.self.now.abi c.args.self.now.depth c.requires.nests (Statement c.args.stmt) c.requires.deep _ _ c.inner.result c.inner.ensures)

pub returns : goal.returns
returns g c = nothing_of (Says c.args.self.now.abi (StatementIs c.args.stmt.now)) c.args.context.now _ c.inner.result c.nothing_in.result c.nothing_in.ensures (asked c.args.self.now.abi c.args.self.now.depth c.requires.nests (Statement c.args.stmt) c.requires.deep _ _ c.inner.result c.inner.ensures)
