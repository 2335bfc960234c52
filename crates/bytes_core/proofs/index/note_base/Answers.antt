use Rattle.std.proofs.Common.{Some, Bool, ◌++◌, ◌∷◌, [], None, subst, sym}
use Rattle.std.specs.Prelude.{if◌then◌else◌}
use Rattle.bytes_core.specs.Indexed.{AreBases}
use Rattle.bytes_core.proofs.Indexed.{bases_more, bases_more_dead}
use Rattle.bytes_core.proofs.index.note_base.Goals as goal

pub returns-then-not-block-clause-ok : goal.returns-then-not-block-clause-ok
returns-then-not-block-clause-ok c = λ begins last are free.
    subst (λ (live : Bool). AreBases (begins ++ (if live then Some c.args.block.now.base else None) ∷ []) c.args.bases.now) (sym c.if-not-block.true)
    (bases_more_dead begins c.args.bases.now are)

pub returns-clause-ok : goal.returns-clause-ok
returns-clause-ok c = λ begins last are free.
    subst (λ (live : Bool). AreBases (begins ++ (if live then Some c.args.block.now.base else None) ∷ []) c.insert.new.self) (sym c.if-not-block.false)
    (bases_more begins c.args.bases.now c.insert.new.self c.args.block.now.base c.args.number c.in_ok-insert.ensures.updates last are (free c.if-not-block.false))
