-- The condition and both arms.
use Rattle.std.proofs.Common.{ap}
use Rattle.std.specs.Prelude.{max}
use Rattle.c_machine.specs.declared.kind.Kind.{Kind}
use Rattle.c_machine.specs.Trees.{text_of}
use Rattle.lowering.specs.LetGo.{AsTest, left_as, left_within}
use Rattle.lowering.proofs.Lefts.{three_parts}
use Rattle.lowering.proofs.left_values.add_choice.Goals as goal

pub returns : goal.returns
returns c = three_parts _ _ _ _ _ _ _ _ _ _ _ c.add_as-2.result c.in_ok-add_whole.ensures c.in_ok-add_as.ensures c.add_as-2.ensures
    (λ p is. ap
    (λ (kind : Kind). max (left_within c.args.levels (text_of p) AsTest c.args.test.now)
    (max (left_as (text_of p) (left_within c.args.levels (text_of p)) c.args.one.now c.args.in_spare kind)
    (left_as (text_of p) (left_within c.args.levels (text_of p)) c.args.other.now c.args.in_spare kind)))
    (c.in_ok-own.ensures.of p is.reads))
