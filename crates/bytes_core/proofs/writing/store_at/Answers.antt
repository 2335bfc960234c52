use Rattle.bytes_core.proofs.Kept.{names_of_word}
use Rattle.bytes_core.proofs.writing.store_at.Goals as goal

pub returns-clause-memory : goal.returns-clause-memory
returns-clause-memory c = λ valid names. c.write_at.ensures.memory valid (rw c.bytes_of-bytes.ensures (names_of_word _ c.args.size c.args.word names))
