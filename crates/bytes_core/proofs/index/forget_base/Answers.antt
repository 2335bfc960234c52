use Rattle.std.proofs.Common.{Some, None, Bool, ap, ◌∙◌}
use Rattle.std.specs.Prelude.{if◌then◌else◌}
use Rattle.bytes_core.proofs.Indexed.{bases_fewer, bases_fewer_dead}
use Rattle.bytes_core.proofs.index.forget_base.Goals as goal

pub returns-then-not-block : goal.returns-then-not-block
returns-then-not-block c = λ begins number own are.
    bases_fewer_dead begins c.args.bases.now number
    (own ∙ ap (λ (live : Bool). Some (if live then Some c.args.block.now.base else None)) c.if-not-block.true) are

pub returns : goal.returns
returns c = λ begins number own are.
    bases_fewer begins c.args.bases.now c.remove.new.self c.args.block.now.base number c.remove.ensures.updates
    (own ∙ ap (λ (live : Bool). Some (if live then Some c.args.block.now.base else None)) c.if-not-block.false) are
