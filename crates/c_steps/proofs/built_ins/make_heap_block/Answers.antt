-- The address of the block that is made is the operand.
use Rattle.std.specs.Prelude.{pos}
use Rattle.bytes_core.specs.declared.word.Word.TheVariants.{To}
use Rattle.c_machine.specs.State.{Went, with_operand}
use Rattle.bytes_core.specs.declared.block.BlockKind.TheVariants as storage
use Rattle.c_steps.proofs.Making.{if_ok, match_err, none_is_made}
use Rattle.c_steps.proofs.built_ins.make_heap_block.Goals as goal

pub push-requires : goal.push-requires
push-requires g c = if_ok _ c.in_ok-outcome.field-0 c.in-Ok.block c.in-Ok.is c.in_ok-outcome.ensures.below

pub returns-in-Err-clause-ok : goal.returns-in-Err-clause-ok
returns-in-Err-clause-ok g c =
    none_is_made c.in-Err.outcome storage.Heap c.args.size c.args.zeroed c.args.state.now c.with_block.new.state c.args.choices.now c.args.choices.now
    (λ after block more. Went (with_operand (To block (pos 0)) after) more)
    (match_err _ _ c.in_ok-outcome.field-0 c.in-Err.outcome c.in-Err.is c.in_ok-outcome.ensures.made)
