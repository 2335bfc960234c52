use Rattle.std.proofs.Common.{sym}
use Rattle.bytes_core.proofs.Kept.{names_of_bytes, copied_nothing}
use Rattle.bytes_core.proofs.copying.copy_at.Goals as goal

pub returns-then-count-eq0-clause-copied : goal.returns-then-count-eq0-clause-copied
returns-then-count-eq0-clause-copied c = sym (copied_nothing c.args.blocks.now.items c.args.to c.args.from c.args.count c.if-count-eq0.true)

pub returns-clause-memory : goal.returns-clause-memory
returns-clause-memory c = λ valid.
    c.write_at.ensures.memory valid
    (rw (c.as_slice-2.ensures.value, c.in_ok-source-in-Ok.ensures.items, c.in-Ok.ensures.source, c.as_slice.ensures.value)
    (names_of_bytes c.args.blocks.now.items c.args.from c.args.count valid))
