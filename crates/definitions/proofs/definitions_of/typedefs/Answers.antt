use Rattle.std.proofs.Common.{◌≡◌, ◌∙◌, arith}
use Rattle.definitions.proofs.NameSets.{typedefs_more}
use Rattle.definitions.proofs.definitions_of.typedefs.Goals as goal

pub loop-span-preserved : goal.loop-span-preserved
loop-span-preserved c =
    c.in_ok-put_item.ensures
    ∙ typedefs_more c.args.t.now c.as_slice-span-items.result.now c.loop-span.span-index _ c.loop-span.found (omega arith) c.loop-span.invariant
