-- The conversion between the kinds.
use Rattle.std.proofs.Common.{ap, ◌∙◌}
use Rattle.c_machine.specs.Trees.{text_of}
use Rattle.c_machine.specs.declared.kind.Kind.{Kind}
use Rattle.lowering.specs.Kinds.{conversion}
use Rattle.lowering.specs.LetGo.{left_converted, left_within}
use Rattle.lowering.proofs.Lefts.{one_part}
use Rattle.lowering.proofs.left.add_as.Goals as goal

pub returns : goal.returns
returns c = one_part _ _ _ _ _ _ _ c.add_converted.result c.add_converted.ensures
    (λ p is. ap (left_converted (text_of p) (left_within c.args.levels (text_of p)) c.args.expr.now c.args.in_spare)
    (c.conversion.ensures ∙ ap (λ (own : Kind). conversion own c.args.kind.now) (c.in_ok-own.ensures.of p is.reads)))
