-- The memory is that of the state.
use Rattle.std.proofs.Common.{◌≡◌, List, IfOk, subst}
use Rattle.bytes_core.specs.declared.block.Block.{Block}
use Rattle.bytes_core.specs.Access.{loaded}
use Rattle.c_machine.specs.Words.{is_pointer}
use Rattle.c_steps.proofs.updates.old_value.Goals as goal

pub returns-clause-word : goal.returns-clause-word
returns-clause-word g c =
    let Loads : List Block → Type 0 = λ blocks. IfOk c.load_at.result (λ word. word ≡ loaded blocks c.args.at c.args.bytes (is_pointer c.args.kind.now)) in
    subst Loads c.memory.ensures c.load_at.ensures.word
