-- The items so far are read and pass.
use Rattle.std.proofs.Common.{take}
use Rattle.ccheck.specs.Steps.{PassSoFar}
use Rattle.ccheck.proofs.items_checked.check_items.Given as goal

abbrev pub invariant-loop-span : goal.invariant-loop-span
invariant-loop-span l =
    PassSoFar l.t l.abi (take l.span-index l.spans) l.program (record { scope = l.scope; expressions = l.expressions }) l.initial.context l.context
