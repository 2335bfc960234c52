-- The memory is that of the state.
use Rattle.std.proofs.Common.{◌≡◌, List, subst}
use Rattle.bytes_core.specs.declared.block.Block.{Block}
use Rattle.c_machine.specs.Words.{operated}
use Rattle.c_steps.proofs.NamedWords.{names_if_operated}
use Rattle.c_steps.proofs.updates.made_value.Goals as goal

pub returns-clause-is : goal.returns-clause-is
returns-clause-is g c =
    subst (λ (blocks : List Block). c.operated.result ≡ operated blocks c.args.op c.args.kind.now c.args.right.now c.args.old c.args.word)
    c.memory.ensures c.operated.ensures

pub returns-clause-names : goal.returns-clause-names
returns-clause-names g c =
    names_if_operated _ c.memory.result.now c.args.op c.args.kind.now c.args.right.now c.args.old c.args.word c.operated.result
    c.requires.old c.requires.word c.operated.ensures
