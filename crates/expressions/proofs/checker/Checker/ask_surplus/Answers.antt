use Rattle.std.proofs.Common.{None}
use Rattle.typing.specs.Typing.{SurplusIs}
use Rattle.expressions.specs.declared.part.Part.TheVariants.{Initialiser}
use Rattle.expressions.specs.Walked.{Says}
use Rattle.expressions.proofs.Telling.{may_ask, asked, of_nothing, nothing_of}
use Rattle.expressions.proofs.checker.Checker.ask_surplus.Goals as goal

pub inner-requires : goal.inner-requires
inner-requires g c = may_ask c.args.self.now.abi c.args.self.now.depth c.requires.nests (Initialiser c.args.subject None c.args.init) c.requires.deep _ tt

pub nothing_in-requires : goal.nothing_in-requires
nothing_in-requires g c = of_nothing (Says c.args.self.now.abi (SurplusIs c.args.subject.place c.args.init.now)) c.args.context.now _ c.inner.result (asked c.args.self.now.abi c.args.self.now.depth c.requires.nests (Initialiser c.args.subject None c.args.init) c.requires.deep _ _ c.inner.result c.inner.ensures)

pub returns : goal.returns
returns g c = nothing_of (Says c.args.self.now.abi (SurplusIs c.args.subject.place c.args.init.now)) c.args.context.now _ c.inner.result c.nothing_in.result c.nothing_in.ensures (asked c.args.self.now.abi c.args.self.now.depth c.requires.nests (Initialiser c.args.subject None c.args.init) c.requires.deep _ _ c.inner.result c.inner.ensures)
