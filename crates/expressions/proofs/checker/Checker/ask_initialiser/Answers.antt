use Rattle.std.proofs.Common.{Some}
use Rattle.typing.specs.Typing.{InitialiserIs}
use Rattle.expressions.specs.declared.part.Part.TheVariants.{Initialiser}
use Rattle.expressions.specs.Nests.{subject_of, slot_at}
use Rattle.expressions.specs.Walked.{SaysBy}
use Rattle.expressions.proofs.Telling.{may_ask, asked, of_nothing, nothing_of}
use Rattle.expressions.proofs.checker.Checker.ask_initialiser.Goals as goal

pub inner-requires : goal.inner-requires
inner-requires g c = may_ask c.args.self.now.abi c.args.self.now.depth c.requires.nests (Initialiser c.args.subject (Some c.args.slot) c.args.init) c.requires.deep _ c.requires.slot

pub nothing_in-requires : goal.nothing_in-requires
nothing_in-requires g c = of_nothing (SaysBy c.args.self.now.abi (λ n. InitialiserIs (subject_of c.args.subject) (slot_at n c.args.slot) c.args.init.now)) c.args.context.now _ c.inner.result (asked c.args.self.now.abi c.args.self.now.depth c.requires.nests (Initialiser c.args.subject (Some c.args.slot) c.args.init) c.requires.deep _ _ c.inner.result c.inner.ensures)

pub returns : goal.returns
returns g c = nothing_of (SaysBy c.args.self.now.abi (λ n. InitialiserIs (subject_of c.args.subject) (slot_at n c.args.slot) c.args.init.now)) c.args.context.now _ c.inner.result c.nothing_in.result c.nothing_in.ensures (asked c.args.self.now.abi c.args.self.now.depth c.requires.nests (Initialiser c.args.subject (Some c.args.slot) c.args.init) c.requires.deep _ _ c.inner.result c.inner.ensures)
