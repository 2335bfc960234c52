-- A scalar is loaded from an address that has a register of its own.
use Rattle.std.proofs.Common.{ap, sym, ◌∙◌}
use Rattle.c_machine.specs.Trees.{text_of}
use Rattle.c_machine.specs.Words.{scalar_bytes}
use Rattle.lowering.specs.LetGo.{left_by_load, left_within}
use Rattle.lowering.proofs.Lefts.{one_part}
use Rattle.lowering.proofs.left_values.add_loaded.Goals as goal

pub returns-in-None : goal.returns-in-None
returns-in-None c = one_part _ _ _ _ _ _ _ c.add_whole.result c.add_whole.ensures
    (λ p is. ap (left_by_load (text_of p) (left_within c.args.levels (text_of p)) c.args.expr.now c.args.in_spare)
    (sym c.in-None.is ∙ c.scalar_bytes.ensures.is ∙ ap scalar_bytes (c.in_ok-own.ensures.of p is.reads)))

pub returns-in-Some : goal.returns-in-Some
returns-in-Some c = one_part _ _ _ _ _ _ _ c.add_place_apart.result c.add_place_apart.ensures
    (λ p is. ap (left_by_load (text_of p) (left_within c.args.levels (text_of p)) c.args.expr.now c.args.in_spare)
    (sym c.in-Some.is ∙ c.scalar_bytes.ensures.is ∙ ap scalar_bytes (c.in_ok-own.ensures.of p is.reads)))
